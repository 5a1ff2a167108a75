-- What a line does to a machine, it does to the graph.
use Rattle.std.proofs.Common.{◌≡◌, ℕ, Bool, true, false, cond, List, [], ◌∷◌, is_ok, Ok, Err, Result, refl}
use Rattle.answers.specs.declared.Refusal.{Refusal}
use Rattle.graph.specs.Calls.{State, Call, judged, put, read, write}
use Rattle.layout.specs.Machine.{Machine}
use Rattle.access.specs.Access.{put_done, read_done, write_done}
use Rattle.parttext.specs.declared.Line.{Line}
use Rattle.parttext.specs.declared.Line.TheVariants.{Put, Symbol, Vector, Words, Read, Write}
use Rattle.parttext.specs.declared.Line.TheVariants.{List as list, String as string}
use Rattle.promises.specs.Promise.{Depicts, Answers, short, Stays}
use Rattle.laws.proofs.Access.{put-answers, read-answers}
use Rattle.laws.proofs.Writes.{write-answers}
use Rattle.laws.proofs.Staying.{put-stays, read_stays, write-stays}
use Rattle.laws.proofs.MakingLaws.{list-answers, list-stays, symbol-answers, symbol-stays, vector-answers, vector-stays, string-answers, string-stays, words-answers, words-stays}
use Rattle.opening.specs.Opening.{uncounted, line_call, nothing, performed, Settled}

judged-same : (ts : List (Bool × Refusal)) (r : Result (Unit {0}) Refusal) → r ≡ judged ts tt → (m : Machine) → (nothing (m, r)).1 ≡ judged ts 0
judged-same ts r e m = rw e (go ts)
  where
    go : (ts : List (Bool × Refusal)) → (nothing (m, judged ts tt)).1 ≡ judged ts 0
    go [] = refl
    go (t ∷ ts) = first t.0 (go ts)
      where
        first : (b : Bool) → (nothing (m, judged ts tt)).1 ≡ judged ts 0 → (nothing (m, cond b (Err t.1) (judged ts tt))).1 ≡ cond b (Err t.1) (judged ts 0)
        first true h = refl
        first false h = h

-- a call without a count, counted
uncounted-answers : (c : Call (Unit {0})) → ((s : State) → c.answer s ≡ tt) → (m : Machine) (x : Machine × Result (Unit {0}) Refusal) → Answers c m x.0 x.1 → Answers (uncounted c) m (nothing x).0 (nothing x).1
uncounted-answers c unit m (m₁, r) h s d = (judged-same (c.refusals s) r (h s d).0 m₁, go r (h s d).1)
  where
    go : (r : Result (Unit {0}) Refusal) → Depicts m₁ (cond (is_ok r) (c.after s) s) → Depicts (nothing (m₁, r)).0 (cond (is_ok (nothing (m₁, r)).1) (c.after s) s)
    go (Ok u) z = z
    go (Err e) z = z

uncounted-stays : (m : Machine) (x : Machine × Result (Unit {0}) Refusal) → Stays m x.0 x.1 → Stays m (nothing x).0 (nothing x).1
uncounted-stays m (m₁, Ok u) h = h
uncounted-stays m (m₁, Err e) h = h

pub performed-answers : (control bindings : ℕ) (c : Line) (m : Machine) → Settled m → Answers (line_call (short m control bindings) c) m (performed control bindings c m).0 (performed control bindings c m).1
unfolding performed
performed-answers control bindings (Put to value) m st = uncounted-answers (put (short m control bindings) to value) (λ s. refl) m (put_done control bindings to value m) (put-answers control bindings to value m)
performed-answers control bindings (list to car cdr) m st = list-answers control bindings to car cdr m
performed-answers control bindings (Symbol to name) m st = symbol-answers control bindings to name m
performed-answers control bindings (Vector to count fill) m st = vector-answers control bindings to count fill m
performed-answers control bindings (string to count) m st = string-answers control bindings to count m
performed-answers control bindings (Words to count access) m st = words-answers control bindings to count access m
performed-answers control bindings (Read to from at) m st = uncounted-answers (read (short m control bindings) to from at) (λ s. refl) m (read_done control bindings to from at m) (read-answers control bindings to from at m st.clean)
performed-answers control bindings (Write into at value) m st = uncounted-answers (write (short m control bindings) into at value) (λ s. refl) m (write_done control bindings into at value m) (write-answers control bindings into at value m)

pub performed-stays : (control bindings : ℕ) (c : Line) (m : Machine) → Settled m → Stays m (performed control bindings c m).0 (performed control bindings c m).1
unfolding performed
performed-stays control bindings (Put to value) m st = uncounted-stays m (put_done control bindings to value m) (put-stays control bindings to value m)
performed-stays control bindings (list to car cdr) m st = list-stays control bindings to car cdr m st.ordered st.which st.spaced
performed-stays control bindings (Symbol to name) m st = symbol-stays control bindings to name m st.ordered st.which st.spaced
performed-stays control bindings (Vector to count fill) m st = vector-stays control bindings to count fill m st.ordered st.which st.spaced
performed-stays control bindings (string to count) m st = string-stays control bindings to count m st.ordered st.which st.spaced
performed-stays control bindings (Words to count access) m st = words-stays control bindings to count access m st.ordered st.which st.spaced
performed-stays control bindings (Read to from at) m st = uncounted-stays m (read_done control bindings to from at m) (read_stays control bindings to from at m)
performed-stays control bindings (Write into at value) m st = uncounted-stays m (write_done control bindings into at value m) (write-stays control bindings into at value m st.ordered)
