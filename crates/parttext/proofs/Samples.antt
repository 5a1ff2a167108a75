-- One line of each form, written out.

use Rattle.std.proofs.Common.{◌≡◌, negsuc, codes, refl}
use Rattle.std.specs.Fmt.{digits}
use Rattle.words.specs.declared.literals.Literal.TheVariants.{Fixnum, Character, Null}
use Rattle.parttext.specs.Grammar.{line_text}
use Rattle.parttext.specs.declared.Line.TheVariants as line

pub text-put-fixnum : line_text (line.Put 0 (Fixnum (negsuc 11))) ≡ codes "op=put to=0 value=f-12\n"
unfolding line_text digits
text-put-fixnum = refl

pub text-put-character : line_text (line.Put 15 (Character 65)) ≡ codes "op=put to=15 value=c65\n"
unfolding line_text digits
text-put-character = refl

pub text-put-null : line_text (line.Put 1 Null) ≡ codes "op=put to=1 value=n\n"
unfolding line_text digits
text-put-null = refl

pub text-list : line_text (line.List 2 0 1) ≡ codes "op=list to=2 car=0 cdr=1\n"
unfolding line_text digits
text-list = refl

pub text-symbol : line_text (line.Symbol 4 5) ≡ codes "op=symbol to=4 name=5\n"
unfolding line_text digits
text-symbol = refl

pub text-vector : line_text (line.Vector 6 12 1) ≡ codes "op=vector to=6 count=12 fill=1\n"
unfolding line_text digits
text-vector = refl

pub text-string : line_text (line.String 5 7) ≡ codes "op=string to=5 count=7\n"
unfolding line_text digits
text-string = refl

pub text-words : line_text (line.Words 7 33 0) ≡ codes "op=words to=7 count=33 access=0\n"
unfolding line_text digits
text-words = refl

pub text-read : line_text (line.Read 8 6 11) ≡ codes "op=read to=8 from=6 at=11\n"
unfolding line_text digits
text-read = refl

pub text-write : line_text (line.Write 6 0 8) ≡ codes "op=write into=6 at=0 value=8\n"
unfolding line_text digits
text-write = refl
