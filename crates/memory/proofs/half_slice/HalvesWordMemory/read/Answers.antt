-- The word at a place is made of the two halves there.
use Rattle.std.proofs.Common.{◌≡◌, ◌+◌, ◌*◌, ◌<◌, ◌/◌, [], ◌∷◌, length, get_or, arith}
use Rattle.words.specs.Words.{joined}
use Rattle.memory.proofs.Pairs.{length-paired, get_or-paired, get_or-chunks}
use Rattle.memory.proofs.half_slice.HalvesWordMemory.read.Goals as goal

pub returns-in-Some : goal.returns-in-Some
returns-in-Some c =
    let hs = c.args.self.now.0.now in
    let i = c.args.i in
    let n = length-paired hs in
    let found = c.in-Some.ensures.lookup.3 in
    let l : i < length hs / 2 = omega (arith, found.0) in
    let chunk = found.1 [] in
    let e = get_or-chunks hs (length hs / 2) i (omega arith) l in
    let w = get_or-paired hs i l in
    let p : c.in-Some.field-0.now ≡ get_or hs (2 * i) 0 ∷ (get_or hs (2 * i + 1) 0 ∷ []) = cc in
    let j : c.join_halves.result ≡ joined (get_or hs (2 * i) 0) (get_or hs (2 * i + 1) 0) = rw p at c.join_halves.ensures in
    (omega arith, cc)
