-- What each call promises, from what its step does.
use Rattle.std.proofs.Common.{◌≡◌, ℕ, ◌<◌, Bool, true, false, ◌&&◌, eqb, leb, is_some, Ok, Result, refl}
use Rattle.words.specs.declared.literals.Literal.{Literal}
use Rattle.words.specs.Literals.{word_of}
use Rattle.answers.specs.declared.Told.{Told}
use Rattle.answers.specs.declared.Refusal.{Refusal}
use Rattle.graph.specs.Calls.{State, Call, put, read, write, tell, same, set_space, freeze, make_list, make_symbol, make_vector, make_string, make_words}
use Rattle.layout.specs.Machine.{Machine, register_at, dirty}
use Rattle.layout.specs.Ordered.{Ordered}
use Rattle.objects.specs.Open.{opened}
use Rattle.store.specs.Flow.{after}
use Rattle.access.specs.Access.{put_word, put_done, read_from, read_done, write_refused, written, write_done, told_word, tell_done, same_done, read_only_lows, with_frozen, freeze_done, with_space, space_done}
use Rattle.cells.specs.Cells.{saved}
use Rattle.promises.specs.Promise.{Answers, Stays, Sticks, noted_by, Promised, short}
use Rattle.laws.proofs.Admission.{admission-sticks}
use Rattle.laws.proofs.Access.{put-answers, read-answers}
use Rattle.laws.proofs.Telling.{tell-answers, same-answers}
use Rattle.laws.proofs.Writes.{write-answers}
use Rattle.spaces.specs.Spaces.{space_at}
use Rattle.laws.proofs.Freezing.{freeze-answers, space-answers}
use Rattle.laws.proofs.Staying.{put-stays, read_stays, write-stays, tell-stays, same-stays, freeze-stays, space-stays}
use Rattle.making.specs.Makings.{list_made, symbol_made, vector_made, string_made, words_made}
use Rattle.laws.proofs.MakingLaws.{list-answers, list-stays, list-sticks, symbol-answers, symbol-stays, symbol-sticks, vector-answers, vector-stays, vector-sticks, string-answers, string-stays, string-sticks, words-answers, words-stays, words-sticks}
use Rattle.laws.proofs.Promised.{Plain, promised}

-- a call that answers what its step did, and remembers a foreign word, keeps its promise
pub noting : {A : Type 0} (c : Call A) (f : Machine → Machine × Result A Refusal) → ((s : State) → Plain (c.refusals s)) → (m : Machine) → Answers c m (f m).0 (f m).1 → Stays m (f m).0 (f m).1 → Sticks m (f m).1 →
    (m₁ m' : Machine) (q r : Result A Refusal) → (m₁, q) ≡ f m → m' ≡ noted_by q m₁ → r ≡ q → Promised c f m m' r
noting c f plain m a b s m₁ m' q r e n same = rw same (promised c f plain m m' q a b s m₁ e n)

put-sticks : (control bindings to : ℕ) (v : Literal) (m : Machine) → Sticks m (put_done control bindings to v m).1
unfolding put_done
put-sticks control bindings to v m = admission-sticks control bindings (leb to 15) (λ x. put_word to x (word_of v)) m

pub put-promised : (control bindings to : ℕ) (v : Literal) (m m₁ m' : Machine) (q r : Result (Unit {0}) Refusal) → (m₁, q) ≡ put_done control bindings to v m → m' ≡ noted_by q m₁ → r ≡ q → Promised (put (short m control bindings) to v) (put_done control bindings to v) m m' r
put-promised control bindings to v m = noting (put (short m control bindings) to v) (put_done control bindings to v) (λ s. (refl, (refl, (refl, tt)))) m (put-answers control bindings to v m) (put-stays control bindings to v m) (put-sticks control bindings to v m)

read-sticks : (control bindings to from k : ℕ) (m : Machine) → Sticks m (read_done control bindings to from k m).1
unfolding read_done
read-sticks control bindings to from k m = admission-sticks control bindings (leb to 15 && leb from 15) (λ x. after x (opened x.table x.words (register_at x from)) (λ o. read_from to k x o)) m

pub read-promised : (control bindings to from k : ℕ) (m m₁ m' : Machine) (q r : Result (Unit {0}) Refusal) → ((l x : ℕ) → dirty m.table l x ≡ false) → (m₁, q) ≡ read_done control bindings to from k m → m' ≡ noted_by q m₁ → r ≡ q → Promised (read (short m control bindings) to from k) (read_done control bindings to from k) m m' r
read-promised control bindings to from k m m₁ m' q r clean =
    noting (read (short m control bindings) to from k) (read_done control bindings to from k) (λ s. (refl, (refl, (refl, (refl, (refl, tt)))))) m (read-answers control bindings to from k m clean) (read_stays control bindings to from k m) (read-sticks control bindings to from k m) m₁ m' q r

write-sticks : (control bindings into k value : ℕ) (m : Machine) → Sticks m (write_done control bindings into k value m).1
unfolding write_done
write-sticks control bindings into k value m = admission-sticks control bindings (leb into 15 && leb value 15) (λ x. after x (opened x.table x.words (register_at x into)) (λ o. after x (write_refused x.table o k (register_at x value)) (λ _. written x (saved o k (register_at x value) x.words)))) m

pub write-promised : (control bindings into k value : ℕ) (m m₁ m' : Machine) (q r : Result (Unit {0}) Refusal) → Ordered m.table.starts m.table.lows m.table.highs → (m₁, q) ≡ write_done control bindings into k value m → m' ≡ noted_by q m₁ → r ≡ q → Promised (write (short m control bindings) into k value) (write_done control bindings into k value) m m' r
write-promised control bindings into k value m m₁ m' q r ord =
    noting (write (short m control bindings) into k value) (write_done control bindings into k value) (λ s. (refl, (refl, (refl, (refl, (refl, (refl, (refl, tt)))))))) m (write-answers control bindings into k value m) (write-stays control bindings into k value m ord) (write-sticks control bindings into k value m) m₁ m' q r

tell-sticks : (control bindings of : ℕ) (m : Machine) → Sticks m (tell_done control bindings of m).1
unfolding tell_done
tell-sticks control bindings of m = admission-sticks control bindings (leb of 15) (λ x. (x, told_word x.table x.words (register_at x of))) m

pub tell-promised : (control bindings of : ℕ) (m m₁ m' : Machine) (q r : Result Told Refusal) → (m₁, q) ≡ tell_done control bindings of m → m' ≡ noted_by q m₁ → r ≡ q → Promised (tell (short m control bindings) of) (tell_done control bindings of) m m' r
tell-promised control bindings of m m₁ m' q r =
    noting (tell (short m control bindings) of) (tell_done control bindings of) (λ s. (refl, (refl, tt))) m (tell-answers control bindings of m) (tell-stays control bindings of m) (tell-sticks control bindings of m) m₁ m' q r

same-sticks : (control bindings left right : ℕ) (m : Machine) → Sticks m (same_done control bindings left right m).1
unfolding same_done
same-sticks control bindings left right m = admission-sticks control bindings (leb left 15 && leb right 15) (λ x. (x, Ok (eqb (register_at x left) (register_at x right)))) m

pub same-promised : (control bindings left right : ℕ) (m m₁ m' : Machine) (q r : Result Bool Refusal) → (m₁, q) ≡ same_done control bindings left right m → m' ≡ noted_by q m₁ → r ≡ q → Promised (same (short m control bindings) left right) (same_done control bindings left right) m m' r
same-promised control bindings left right m m₁ m' q r =
    noting (same (short m control bindings) left right) (same_done control bindings left right) (λ s. (refl, (refl, tt))) m (same-answers control bindings left right m) (same-stays control bindings left right m) (same-sticks control bindings left right m) m₁ m' q r

freeze-sticks : (control bindings : ℕ) (m : Machine) → Sticks m (freeze_done control bindings m).1
unfolding freeze_done
freeze-sticks control bindings m = admission-sticks control bindings true (λ x. (with_frozen x (read_only_lows x.table), Ok tt)) m

pub freeze-promised : (control bindings : ℕ) (m m₁ m' : Machine) (q r : Result (Unit {0}) Refusal) → (m₁, q) ≡ freeze_done control bindings m → m' ≡ noted_by q m₁ → r ≡ q → Promised (freeze (short m control bindings)) (freeze_done control bindings) m m' r
freeze-promised control bindings m m₁ m' q r =
    noting (freeze (short m control bindings)) (freeze_done control bindings) (λ s. (refl, tt)) m (freeze-answers control bindings m) (freeze-stays control bindings m) (freeze-sticks control bindings m) m₁ m' q r

space-sticks : (control bindings n : ℕ) (m : Machine) → Sticks m (space_done control bindings n m).1
unfolding space_done
space-sticks control bindings n m = admission-sticks control bindings (is_some (space_at n)) (λ x. (with_space x n, Ok tt)) m

pub space-promised : (control bindings n : ℕ) (m m₁ m' : Machine) (q r : Result (Unit {0}) Refusal) → (m₁, q) ≡ space_done control bindings n m → m' ≡ noted_by q m₁ → r ≡ q → Promised (set_space (short m control bindings) n) (space_done control bindings n) m m' r
space-promised control bindings n m m₁ m' q r =
    noting (set_space (short m control bindings) n) (space_done control bindings n) (λ s. (refl, (refl, tt))) m (space-answers control bindings n m) (space-stays control bindings n m) (space-sticks control bindings n m) m₁ m' q r

pub list-promised : (control bindings to car cdr : ℕ) (m m₁ m' : Machine) (q r : Result ℕ Refusal) → Ordered m.table.starts m.table.lows m.table.highs → m.table.now < 2 → m.space < 4 →
    (m₁, q) ≡ list_made control bindings to car cdr m → m' ≡ noted_by q m₁ → r ≡ q → Promised (make_list (short m control bindings) to car cdr) (list_made control bindings to car cdr) m m' r
list-promised control bindings to car cdr m m₁ m' q r ord which spaced =
    noting (make_list (short m control bindings) to car cdr) (list_made control bindings to car cdr) (λ s. (refl, (refl, (refl, (refl, tt))))) m (list-answers control bindings to car cdr m) (list-stays control bindings to car cdr m ord which spaced)
    (list-sticks control bindings to car cdr m) m₁ m' q r

pub symbol-promised : (control bindings to name : ℕ) (m m₁ m' : Machine) (q r : Result ℕ Refusal) → Ordered m.table.starts m.table.lows m.table.highs → m.table.now < 2 → m.space < 4 →
    (m₁, q) ≡ symbol_made control bindings to name m → m' ≡ noted_by q m₁ → r ≡ q → Promised (make_symbol (short m control bindings) to name) (symbol_made control bindings to name) m m' r
symbol-promised control bindings to name m m₁ m' q r ord which spaced =
    noting (make_symbol (short m control bindings) to name) (symbol_made control bindings to name) (λ s. (refl, (refl, (refl, (refl, (refl, tt)))))) m (symbol-answers control bindings to name m) (symbol-stays control bindings to name m ord which spaced)
    (symbol-sticks control bindings to name m) m₁ m' q r

pub vector-promised : (control bindings to count fill : ℕ) (m m₁ m' : Machine) (q r : Result ℕ Refusal) → Ordered m.table.starts m.table.lows m.table.highs → m.table.now < 2 → m.space < 4 →
    (m₁, q) ≡ vector_made control bindings to count fill m → m' ≡ noted_by q m₁ → r ≡ q → Promised (make_vector (short m control bindings) to count fill) (vector_made control bindings to count fill) m m' r
vector-promised control bindings to count fill m m₁ m' q r ord which spaced =
    noting (make_vector (short m control bindings) to count fill) (vector_made control bindings to count fill) (λ s. (refl, (refl, (refl, (refl, (refl, tt)))))) m (vector-answers control bindings to count fill m) (vector-stays control bindings to count fill m ord which spaced)
    (vector-sticks control bindings to count fill m) m₁ m' q r

pub string-promised : (control bindings to count : ℕ) (m m₁ m' : Machine) (q r : Result ℕ Refusal) → Ordered m.table.starts m.table.lows m.table.highs → m.table.now < 2 → m.space < 4 →
    (m₁, q) ≡ string_made control bindings to count m → m' ≡ noted_by q m₁ → r ≡ q → Promised (make_string (short m control bindings) to count) (string_made control bindings to count) m m' r
string-promised control bindings to count m m₁ m' q r ord which spaced =
    noting (make_string (short m control bindings) to count) (string_made control bindings to count) (λ s. (refl, (refl, (refl, (refl, (refl, tt)))))) m (string-answers control bindings to count m) (string-stays control bindings to count m ord which spaced)
    (string-sticks control bindings to count m) m₁ m' q r

pub words-promised : (control bindings to count access : ℕ) (m m₁ m' : Machine) (q r : Result ℕ Refusal) → Ordered m.table.starts m.table.lows m.table.highs → m.table.now < 2 → m.space < 4 →
    (m₁, q) ≡ words_made control bindings to count access m → m' ≡ noted_by q m₁ → r ≡ q → Promised (make_words (short m control bindings) to count access) (words_made control bindings to count access) m m' r
words-promised control bindings to count access m m₁ m' q r ord which spaced =
    noting (make_words (short m control bindings) to count access) (words_made control bindings to count access) (λ s. (refl, (refl, (refl, (refl, (refl, tt)))))) m (words-answers control bindings to count access m) (words-stays control bindings to count access m ord which spaced)
    (words-sticks control bindings to count access m) m₁ m' q r
