use Rattle.operations.specs.declared.Op.TheVariants.{Put, List, Symbol, Vector, String, Words, Read, Write}
use Rattle.parttext.proofs.Forms.{refused, number_at, literal_at}
use Rattle.parttext.proofs.call_of.Goals as goal

pub returns-in_err-to-in-Put : goal.returns-in_err-to-in-Put
returns-in_err-to-in-Put c = refused Put _ _ _ c.in-Put.is c.from_residual.ensures.0 (λ fs d h. c.in_err-to-in-Put.ensures (number_at fs 0, literal_at fs 1) d (h.0, h.1.0))

pub returns-in_err-to-in-List : goal.returns-in_err-to-in-List
returns-in_err-to-in-List c = refused List _ _ _ c.in-List.is c.from_residual-in_err-to-in-List.ensures.0 (λ fs d h. c.in_err-to-in-List.ensures (number_at fs 0, number_at fs 1, number_at fs 2) d (h.0, h.1.0, h.1.1.0))

pub returns-in_err-to-in-Symbol : goal.returns-in_err-to-in-Symbol
returns-in_err-to-in-Symbol c = refused Symbol _ _ _ c.in-Symbol.is c.from_residual-in_err-to-in-Symbol.ensures.0 (λ fs d h. c.in_err-to-in-Symbol.ensures (number_at fs 0, number_at fs 1) d (h.0, h.1.0))

pub returns-in_err-to-in-Vector : goal.returns-in_err-to-in-Vector
returns-in_err-to-in-Vector c = refused Vector _ _ _ c.in-Vector.is c.from_residual-in_err-to-in-Vector.ensures.0 (λ fs d h. c.in_err-to-in-Vector.ensures (number_at fs 0, number_at fs 1, number_at fs 2) d (h.0, h.1.0, h.1.1.0))

pub returns-in_err-to-in-String : goal.returns-in_err-to-in-String
returns-in_err-to-in-String c = refused String _ _ _ c.in-String.is c.from_residual-in_err-to-in-String.ensures.0 (λ fs d h. c.in_err-to-in-String.ensures (number_at fs 0, number_at fs 1) d (h.0, h.1.0))

pub returns-in_err-to-in-Words : goal.returns-in_err-to-in-Words
returns-in_err-to-in-Words c = refused Words _ _ _ c.in-Words.is c.from_residual-in_err-to-in-Words.ensures.0 (λ fs d h. c.in_err-to-in-Words.ensures (number_at fs 0, number_at fs 1, number_at fs 2) d (h.0, h.1.0, h.1.1.0))

pub returns-in_err-to-in-Read : goal.returns-in_err-to-in-Read
returns-in_err-to-in-Read c = refused Read _ _ _ c.in-Read.is c.from_residual-in_err-to-in-Read.ensures.0 (λ fs d h. c.in_err-to-in-Read.ensures (number_at fs 0, number_at fs 1, number_at fs 2) d (h.0, h.1.0, h.1.1.0))

pub returns-in_err-into-in-Write : goal.returns-in_err-into-in-Write
returns-in_err-into-in-Write c = refused Write _ _ _ c.in-Write.is c.from_residual-in_err-into-in-Write.ensures.0 (λ fs d h. c.in_err-into-in-Write.ensures (number_at fs 0, number_at fs 1, number_at fs 2) d (h.0, h.1.0, h.1.1.0))
