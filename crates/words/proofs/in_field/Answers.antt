-- The value's bits lie inside the word, so the shift loses nothing.
use Rattle.std.proofs.Common.{◌%◌, ◌^◌}
use Rattle.std.proofs.lemmas.Nat.{one_shl, shl_whole, mod_below, pow_pos}
use Rattle.words.proofs.in_field.Goals as goal

pub returns : goal.returns
returns g c =
    rw (one_shl g.row.WIDTH 32 c.requires.width)
    (shl_whole (c.args.value % 2 ^ g.row.WIDTH) g.row.WIDTH g.row.LOW 32 (mod_below c.args.value (2 ^ g.row.WIDTH) (pow_pos g.row.WIDTH)) c.requires.inside)
