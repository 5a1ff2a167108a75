-- What a literal is told to be.
use Rattle.words.specs.declared.literals.Literal.{Literal}
use Rattle.words.specs.declared.literals.Literal.TheVariants.{Fixnum, Character, Null}
use Rattle.answers.specs.declared.Told.{Told}
use Rattle.answers.specs.declared.Told.TheVariants.{Fixnum as told_fixnum, Character as told_character, Null as told_null}

-- What a register is told to hold whose word stands for this literal.
abbrev pub told_of : Literal → Told
told_of (Fixnum z) = told_fixnum z
told_of (Character c) = told_character c
told_of Null = told_null
