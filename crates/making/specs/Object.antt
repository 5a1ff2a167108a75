-- The words of an object that is to be made.
use Rattle.std.specs.Prelude.{ℕ, List, ◌++◌, replicate}
use Rattle.making.specs.declared.object.NewObject.{NewObject}

abbrev pub words_of : NewObject → List ℕ
words_of o = o.head.now ++ replicate o.rest o.fill
