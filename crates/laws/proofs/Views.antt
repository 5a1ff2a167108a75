-- What holds of every store as a machine.
use Rattle.std.proofs.Common.{◌≡◌, ℕ, ◌<◌, Bool, true, false, cond, ◌&&◌, eqb, ltb, leb, Some, None, refl, arith}
use Rattle.std.proofs.lemmas.Bool.Decides.{nat_tests}
use Rattle.layout.specs.Machine.{dirty}
use Rattle.layout.proofs.Fresh.{get_or-all}
use Rattle.store.specs.declared.state.Store.{Store}
use Rattle.store.specs.View.{table_of}
use Rattle.spaces.specs.declared.Space.{Space}
use Rattle.spaces.specs.declared.Space.TheVariants.{Dynamic, Static, ReadOnly}
use Rattle.spaces.specs.Spaces.{code_of, space_at}

-- no word is dirty
pub view-clean : (s : Store) (l x : ℕ) → dirty (table_of s) l x ≡ false
unfolding dirty
view-clean s l x = rw (get_or-all 20 l 0) (none x)
  where
    none : (x : ℕ) → (leb 0 x && ltb x 0) ≡ false
    none x = grind (arith, nat_tests)

-- the number of a space leads back to it
pub code-back : (n : ℕ) (s : Space) → space_at n ≡ Some s → code_of s ≡ n
code-back n s h = go (eqb n 0) (eqb n 2) (eqb n 3) refl refl refl h
  where
    equal : (a b : ℕ) → eqb a b ≡ true → b ≡ a
    equal a b z = grind (arith, nat_tests)

    go : (a b c : Bool) → eqb n 0 ≡ a → eqb n 2 ≡ b → eqb n 3 ≡ c → cond a (Some Dynamic) (cond b (Some Static) (cond c (Some ReadOnly) None)) ≡ Some s → code_of s ≡ n
    go true b c x y z e = let q : Dynamic ≡ s = cc in rw (← q) (equal n 0 x)
    go false true c x y z e = let q : Static ≡ s = cc in rw (← q) (equal n 2 y)
    go false false true x y z e = let q : ReadOnly ≡ s = cc in rw (← q) (equal n 3 z)
    go false false false x y z e = let q : ◌≡◌ {A = ℕ} 0 1 = cc in absurd (omega arith)

pub code-small : (s : Space) → code_of s < 4
code-small Dynamic = omega arith
code-small Static = omega arith
code-small ReadOnly = omega arith
