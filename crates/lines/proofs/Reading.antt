-- What a whole run of a reader answers.

use Rattle.std.proofs.Common.{ℕ, List, length, ap, ◌∙◌}
use Rattle.std.proofs.lemmas.Iterator.{YieldsList}
use Rattle.std.proofs.lemmas.Iterator.Consumers.{YieldsList-from_shown}
use Rattle.lines.specs.Lines.{ReadsLine, lines_of, unread, numbered}
use Rattle.lines.specs.declared.reader.Reader.{Reader}
use Rattle.lines.specs.declared.Part.{Part}

-- The bytes of a part, and its number.
abbrev pub part_of : Part → List ℕ × ℕ
part_of p = (p.bytes.now, p.line)

-- The lines that a reader has still to answer.
abbrev pub lines_left : Reader → List (List ℕ × ℕ)
lines_left r = numbered r.line (lines_of (unread r))

-- A reader answers just the lines that are left, in order, each with its number.
pub lines_come : (r : Reader) → YieldsList ReadsLine part_of r (lines_left r)
lines_come r =
    YieldsList-from_shown ReadsLine part_of lines_left (λ s t h. ap (λ (ls : List (List ℕ)). length (numbered s.line ls)) h.0)
    (λ s p t h. ap (numbered s.line) h.0 ∙ cc) r
