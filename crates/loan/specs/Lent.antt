-- What a loan is to a call.
use Rattle.std.specs.Prelude.{◌≡◌}
use Rattle.std.specs.Borrow.{GName}
use Rattle.loan.specs.declared.Loan.{Loan}

-- A call gives back the memory, over the slice that it borrowed, and the stacks, each entry as it was.
pub record GivenBack {M : Type 0} (lender_of : M → GName) (a b : Loan M) : Type 0 where
  pub memory : b.memory.ghost_name ≡ a.memory.ghost_name
  pub lender : lender_of b.memory.now ≡ lender_of a.memory.now
  pub control : b.control ≡ a.control
  pub bindings : b.bindings ≡ a.bindings
