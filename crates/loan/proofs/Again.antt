-- A loan that was given back twice was given back.
use Rattle.std.proofs.Common.{◌∙◌}
use Rattle.std.specs.Borrow.{GName}
use Rattle.loan.specs.declared.Loan.{Loan}
use Rattle.loan.specs.Lent.{GivenBack}

pub given-back-again : {M : Type 0} (lender_of : M → GName) (a b c : Loan M) → GivenBack lender_of a b → GivenBack lender_of b c → GivenBack lender_of a c
given-back-again lender_of a b c p q = record { memory = q.memory ∙ p.memory; lender = q.lender ∙ p.lender; control = q.control ∙ p.control; bindings = q.bindings ∙ p.bindings }
