-- What is printed of an answer.
use Rattle.std.specs.Prelude.{ℕ, List, ◌++◌, codes, decimal}
use Rattle.std.specs.Fmt.{signed_decimal}
use Rattle.answers.specs.Numbers.{number_of}
use Rattle.answers.specs.declared.TextFault.{TextFault}
use Rattle.answers.specs.declared.Told.{Told}
use Rattle.answers.specs.declared.Told.TheVariants.{Fixnum, Character, Null, Object}

-- What a register holds: a letter for the sort of value and its number, for an object the type code of its kind.
abbrev pub told_shown : Told → List ℕ
told_shown (Fixnum z) = codes "f" ++ signed_decimal z
told_shown (Character c) = codes "c" ++ decimal c
told_shown Null = codes "n"
told_shown (Object code space cells) = codes "o" ++ decimal code

-- The refused line by its number, and the refusal by its number.
abbrev pub fault_shown : TextFault → List ℕ
fault_shown fault = codes "line=" ++ (decimal fault.line ++ (codes " refusal=" ++ decimal (number_of fault.refusal)))
