-- What a screen is told is what the paper tells: of the words, whatever they are, and of the records, where the words agree with them.
use Rattle.std.specs.Prelude.{ℕ, ◌≤◌, ◌≡◌, refl, ◌&&◌, ltb}
use Rattle.std.proofs.Common.{arith, sym, ◌∙◌, inl, inr, eqb-true}
use Rattle.kernel.specs.Walk.{bit, first_from}
use Rattle.kernel.specs.Words.{digit, ones_of, first_of}
use Rattle.kernel.proofs.Cases.{same_or, in-or-out, contrary}
use Rattle.kernel.proofs.WalkLaws.{first-cases}
use Rattle.kernel.proofs.WordsLaws.{ones-agree, first-agree}
use Rattle.library.specs.declared.tables.Tables.{Tables}
use Rattle.host.specs.Screen.{ready_count, ready_first, waiters_at}
use Rattle.promises.specs.Paper.World.{World, found, Running}
use Rattle.promises.specs.Paper.Together.{is_ready, WordsAgree}
use Rattle.promises.specs.Paper.Boundary.{names_ready, CountCall, FirstCall, WaitingCall, ScreenOf}
use Rattle.promises.specs.Meant.Together.{number-count}
use Rattle.promises.specs.Meant.Words.{bit-one}

-- ---- the three calls, on any tables

pub count-call-is : (t : Tables) → CountCall t (ready_count t)
unfolding ones_of
count-call-is t = sym (number-count (names_ready t) 16)

pub count-call-one : (t : Tables) {r q : ℕ} → CountCall t r → CountCall t q → r ≡ q
count-call-one t a b = a ∙ sym b

pub first-call-is : (t : Tables) → FirstCall t (ready_first t)
unfolding first_of
first-call-is t =
    elim (first-cases (names_ready t) 16) [
      | inl f ↦ FirstCall.some f.below f.passes f.least
      | inr f ↦ FirstCall.none f.1 f.0
    ]

pub first-call-one : {t : Tables} {r q : ℕ} → FirstCall t r → FirstCall t q → r ≡ q
first-call-one {t} {r} {q} (FirstCall.some a b c) (FirstCall.some d e f) =
    same_or r q (λ s. s) (λ n. in-or-out r q (λ l. contrary b (f r l)) (λ l. contrary e (c q (omega arith))))
first-call-one {t} {r} {q} (FirstCall.some a b c) (FirstCall.none d e) = contrary b (d r a)
first-call-one {t} {r} {q} (FirstCall.none a b) (FirstCall.some c d e) = contrary d (a q c)
first-call-one (FirstCall.none a b) (FirstCall.none c d) = b ∙ sym d

pub waiting-call-is : (t : Tables) (p : ℕ) → WaitingCall t p (waiters_at t p)
waiting-call-is t p = refl

pub waiting-call-one : (t : Tables) (p : ℕ) {r q : ℕ} → WaitingCall t p r → WaitingCall t p q → r ≡ q
waiting-call-one t p a b = a ∙ sym b

-- ---- on words that agree with the records

module _ (t : Tables) (few : t.sizes.threads ≤ 16) (agree : WordsAgree (found t) t.kernel.words) where
  abbrev w : World
  w = found t

  abbrev n : ℕ
  n = t.sizes.threads

  told : (i : ℕ) → digit t.kernel.words.ready i ≡ bit (ltb i n && is_ready w i)
  told i = agree.ready i ∙ sym (bit-one (ltb i n && is_ready w i))

  -- the first that is ready runs
  first_runs : Running w (first_from (is_ready w) 0 n)
  first_runs =
      elim (first-cases (is_ready w) n) [
        | inl f ↦ Running.thread (record {
          thread = f.below;
          is-ready = eqb-true (w.thread (first_from (is_ready w) 0 n)).state 0 f.passes;
          first = λ j l e. contrary (rw e) (f.least j l);
        })
        | inr f ↦ Running.idle (λ j l e. contrary (rw e) (f.1 j l)) f.0
      ]

  pub screen-is : ScreenOf t (ready_count t) (ready_first t) (waiters_at t)
  screen-is =
      record {
        counted = ones-agree (is_ready w) n t.kernel.words.ready few told ∙ sym (number-count (is_ready w) n);
        running = rw (first-agree (is_ready w) n t.kernel.words.ready few told) first_runs;
        waiters = agree.waiting;
      }
