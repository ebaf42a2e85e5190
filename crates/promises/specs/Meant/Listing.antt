-- What the meanings print is what the paper tells: digits by digits, record by record; and the paper leaves no choice.
use Rattle.std.specs.Prelude.{ℕ, zero, suc, ◌+◌, ◌*◌, ◌/◌, ◌%◌, ◌≤◌, ◌<◌, ◌≡◌, refl, ◌≢◌, eqb, ltb, length, get_or, take, drop, Some}
use Rattle.std.proofs.Common.{arith, add-one, sym, subst, ◌∙◌, eqb-true, ltb-true, ltb-false}
use Rattle.std.proofs.Math.Path.{ap}
use mathlib.Core.List.{List, [], ◌∷◌, ◌++◌, append_assoc, append-nil}
use Rattle.std.proofs.lemmas.Bool.{eqb-false}
use Rattle.kernel.specs.declared.clock.Clock.{Clock}
use Rattle.kernel.proofs.Cases.{split}
use Rattle.library.specs.declared.calls.Step.{Step}
use Rattle.library.specs.declared.sizes.Sizes.{Sizes}
use Rattle.library.specs.Told.{Made}
use Rattle.library.specs.declared.tables.Tables.{Tables}
use Rattle.library.specs.Fresh.{made}
use Rattle.library.specs.Sizes.{no_sizes}
use Rattle.steps.specs.declared.stepping.Stepped.{Stepped}
use Rattle.steps.specs.Stepping.{stepped}
use Rattle.trace.specs.Told.{Found, Read}
use Rattle.trace.specs.Ordered.{get_n}
use Rattle.trace.specs.Decoding.{head_refusal, step_refusal, decoded_step, next_read}
use Rattle.trace.specs.Traces.{Reading, read_from, read_all}
use Rattle.trace.proofs.Framing.{Head, head, stands}
use Rattle.trace.proofs.ReadingLaws.{ends, steps_on, refuses}
use Rattle.text.specs.declared.views.Parts.{Parts}
use Rattle.text.specs.declared.views.Seen.{Seen}
use Rattle.text.specs.declared.views.View.{View}
use Rattle.buffers.specs.Decimal.{digits_n, decimal}
use Rattle.buffers.specs.Put.{rows}
use Rattle.text.specs.Rows.{word_text, row_text}
use Rattle.text.specs.Views.{parts_text, view_parts, listed_rate, fresh_seen, seen_after, stop_text, records_text, reading_text, view_text}
use Rattle.buffers.proofs.DecimalLaws.{one-digit, more-digits}
use Rattle.text.proofs.ViewLaws.{opens, refused}
use Rattle.promises.specs.Paper.Answers.{Said, found_said}
use Rattle.promises.specs.Paper.Time.{Possible}
use Rattle.promises.specs.Paper.Fresh.{MadeOf}
use Rattle.promises.specs.Paper.Reader.{ReadOf}
use Rattle.promises.specs.Paper.Run.{Moment, moment_by, moments_by}
use Rattle.promises.specs.Paper.Listing.{InDecimal, Line, Stop, StepsFound, TraceFound, StopLine, EachText, Printed, Told}
use Rattle.promises.specs.Meant.Fresh.{made-is, made_one}
use Rattle.promises.specs.Meant.Reader.{read_is, read_one}
use Rattle.promises.specs.Runs.Frequency.{moment_at, Alike, fresh-alike}

-- ---- numbers

in-digits : (f n : ℕ) → n < f → InDecimal n (digits_n f n)
unfolding digits_n
in-digits zero n h = absurd (omega arith)
in-digits (suc f) n h =
    split (ltb n 10)
    (λ t. rw t (InDecimal.one (ltb-true n 10 t)))
    (λ e.
    let ten : 10 ≤ n = ltb-false n 10 e in
    let same : n / 10 * 10 + n % 10 ≡ n = omega arith in
    rw e (subst (λ (k : ℕ). InDecimal k (digits_n f (n / 10) ++ ((48 + n % 10) ∷ []))) same
    (InDecimal.more {n = n / 10} {d = n % 10} (omega arith) (omega arith) (in-digits f (n / 10) (omega arith)))))

pub in-decimal : (n : ℕ) → InDecimal n (decimal n)
unfolding decimal
in-decimal n = in-digits (suc n) n (omega arith)

-- a number has one text
pub decimal-one : {n : ℕ} {ds : List ℕ} → InDecimal n ds → ds ≡ decimal n
decimal-one (InDecimal.one {n} h) = let e : n % 10 ≡ n = omega arith in ap (λ (k : ℕ). (48 + k) ∷ []) (sym e) ∙ one-digit n h
decimal-one (InDecimal.more {n} {d} {ds} p h r) =
    let tens : (n * 10 + d) / 10 ≡ n = omega arith in
    let ones : (n * 10 + d) % 10 ≡ d = omega arith in
    ap (λ (l : List ℕ). l ++ ((48 + d) ∷ [])) (decimal-one r)
    ∙ ap (λ (k : ℕ). decimal n ++ ((48 + k) ∷ [])) (sym ones)
    ∙ ap (λ (k : ℕ). decimal k ++ ((48 + (n * 10 + d) % 10) ∷ [])) (sym tens)
    ∙ more-digits (n * 10 + d) (omega arith)

-- ---- lines

-- the text of a line of numbers
abbrev pub line_text : ℕ → List ℕ → List ℕ
line_text n [] = decimal n ++ (10 ∷ [])
line_text n (m ∷ ns) = decimal n ++ (32 ∷ line_text m ns)

pub line-is : (n : ℕ) (ns : List ℕ) → Line (n ∷ ns) (line_text n ns)
line-is n [] = Line.last (in-decimal n)
line-is n (m ∷ ns) = Line.more (in-decimal n) (line-is m ns)

pub line-one : {n : ℕ} {ns l : List ℕ} → Line (n ∷ ns) l → l ≡ line_text n ns
line-one (Line.last d) = ap (λ (a : List ℕ). a ++ (10 ∷ [])) (decimal-one d)
line-one (Line.more {ns = []} d r) = elim r [ ]
line-one (Line.more {n} {ns = m ∷ ns} {rest = rest} d r) =
    ap (λ (a : List ℕ). a ++ (32 ∷ rest)) (decimal-one d) ∙ ap (λ (a : List ℕ). decimal n ++ (32 ∷ a)) (line-one r)

-- further numbers, each behind a blank
abbrev numbers_text : List ℕ → List ℕ
numbers_text [] = []
numbers_text (n ∷ ns) = 32 ∷ decimal n ++ numbers_text ns

pub numbers-line : (n : ℕ) (ns : List ℕ) → (decimal n ++ numbers_text ns) ++ (10 ∷ []) ≡ line_text n ns
numbers-line n [] = ap (λ (l : List ℕ). l ++ (10 ∷ [])) (append-nil (decimal n))
numbers-line n (m ∷ ns) =
    append_assoc (decimal n) (32 ∷ decimal m ++ numbers_text ns) (10 ∷ []) ∙ ap (λ (l : List ℕ). decimal n ++ (32 ∷ l)) (numbers-line m ns)

-- ---- what a trace holds

-- how a reading stopped
abbrev stop_of : Found → Stop
stop_of Found.Opened = Stop.ended
stop_of (Found.Stepped x) = Stop.ended
stop_of Found.Ended = Stop.ended
stop_of (Found.Refused code number) = Stop.bad number code

said : {a b : Read} → a ≡ b → found_said a.found ≡ found_said b.found
said e = ap (λ (r : Read). found_said r.found) e

-- behind record 0, where the reads are enough for the bytes that are left
steps-found : (n : ℕ) (s : List ℕ) (at : ℕ) → 0 < at → at ≤ length s → length s < at + n
    → StepsFound s at (read_from n s at).steps (stop_of (read_from n s at).stop)
unfolding read_from
steps-found zero s at h l k = absurd (omega arith)
steps-found (suc n) s at h l k =
    split (eqb at (length s))
    (λ e.
    let is = ends s at h (eqb-true at (length s) e) in
    rw is (StepsFound.ended (next_read s at) (read_is s at) (said is)))
    (λ f.
    let here : at ≢ length s = eqb-false at (length s) f in
    split (eqb (step_refusal s at) 0)
    (λ e.
    let r : step_refusal s at ≡ 0 = eqb-true (step_refusal s at) 0 e in
    let is = steps_on s at h here r in
    let next : (next_read s at).next ≡ at + 13 = ap (λ (x : Read). x.next) is in
    let y = decoded_step (take 11 (drop (at + 2) s)) in
    let rest = steps-found n s (at + 13) (omega arith) (stands s at r).within (omega arith) in
    rw is
    (StepsFound.more {at = at} {x = y} (next_read s at) (read_is s at) (said is)
    (subst (λ (p : ℕ). StepsFound s p (read_from n s (at + 13)).steps (stop_of (read_from n s (at + 13)).stop)) (sym next) rest)))
    (λ g.
    let is = refuses s at h here (eqb-false (step_refusal s at) 0 g) in
    rw is (StepsFound.bad (next_read s at) (read_is s at) (said is))))

trace-found : (n : ℕ) (s : List ℕ) → length s ≤ n
    → TraceFound s (read_from (suc n) s 0).sizes (read_from (suc n) s 0).steps (stop_of (read_from (suc n) s 0).stop)
unfolding read_from
trace-found n s k =
    split (eqb (head_refusal s) 0)
    (λ e.
    let none : head_refusal s ≡ 0 = eqb-true (head_refusal s) 0 e in
    let h : Head s = head s none in
    let long : get_n 2 s 1 ≡ 6 + get_or s 7 0 = h.opens.sized in
    let is = opens s none in
    let next : (next_read s 0).next ≡ 3 + get_n 2 s 1 = ap (λ (x : Read). x.next) is in
    let rest = steps-found n s (3 + get_n 2 s 1) (omega arith) h.opens.within (omega arith) in
    let all : TraceFound s (next_read s 0).sizes (read_from n s (3 + get_n 2 s 1)).steps (stop_of (read_from n s (3 + get_n 2 s 1)).stop) =
    TraceFound.opened (next_read s 0) (read_is s 0) (said is)
    (subst (λ (p : ℕ). StepsFound s p (read_from n s (3 + get_n 2 s 1)).steps (stop_of (read_from n s (3 + get_n 2 s 1)).stop)) (sym next) rest) in
    rw is (subst (λ (z : Sizes). TraceFound s z (read_from n s (3 + get_n 2 s 1)).steps (stop_of (read_from n s (3 + get_n 2 s 1)).stop)) (ap (λ (x : Read). x.sizes) is) all))
    (λ f.
    let is = refused s (eqb-false (head_refusal s) 0 f) in
    rw is (TraceFound.bad (next_read s 0) (read_is s 0) (said is)))

pub all_found : (s : List ℕ) → TraceFound s (read_all s).sizes (read_all s).steps (stop_of (read_all s).stop)
unfolding read_all
all_found s = trace-found (length s) s (omega arith)

abbrev step_of : ℕ → ℕ → ℕ → ℕ → ℕ → Step
step_of k c o a t = record { kind = k; caller = c; object = o; a = a; timeout = t }

-- what is said of a step says it
step-one : {x y : Step}
    → ◌≡◌ {A = Said} (record { code = 0; gives = 2; values = x.kind ∷ x.caller ∷ x.object ∷ x.a ∷ x.timeout ∷ [] })
    (record { code = 0; gives = 2; values = y.kind ∷ y.caller ∷ y.object ∷ y.a ∷ y.timeout ∷ [] }) → x ≡ y
step-one e =
    ap
    (λ (v : Said).
    step_of (get_or v.values 0 0) (get_or v.values 1 0) (get_or v.values 2 0) (get_or v.values 3 0) (get_or v.values 4 0))
    e

abbrev given : Said → ℕ
given v = v.gives

abbrev many : Said → ℕ
many v = length v.values

same-said : {s : List ℕ} {at : ℕ} {r q : Read} {a b : Said} → ReadOf s at r → ReadOf s at q → found_said r.found ≡ a → found_said q.found ≡ b → a ≡ b
same-said c d e f = sym e ∙ said (read_one c d) ∙ f

-- the paper leaves no choice of what a trace holds
steps-one : {s : List ℕ} {at : ℕ} {xs ys : List Step} {p q : Stop} → StepsFound s at xs p → StepsFound s at ys q → (xs ≡ ys) × (p ≡ q)
steps-one (StepsFound.ended r a e) (StepsFound.ended q b f) = (refl, refl)
steps-one (StepsFound.ended r a e) (StepsFound.bad q b f) = let n = ap many (same-said a b e f) in absurd (omega (arith, n))
steps-one (StepsFound.ended r a e) (StepsFound.more q b f t) = let n = ap given (same-said a b e f) in absurd (omega (arith, n))
steps-one (StepsFound.bad r a e) (StepsFound.ended q b f) = let n = ap many (same-said a b e f) in absurd (omega (arith, n))
steps-one (StepsFound.bad r a e) (StepsFound.bad q b f) =
    let n = same-said a b e f in
    (refl, ap (λ (v : Said). Stop.bad (get_or v.values 0 0) v.code) n)
steps-one (StepsFound.bad r a e) (StepsFound.more q b f t) = let n = ap given (same-said a b e f) in absurd (omega (arith, n))
steps-one (StepsFound.more r a e t) (StepsFound.ended q b f) = let n = ap given (same-said a b e f) in absurd (omega (arith, n))
steps-one (StepsFound.more r a e t) (StepsFound.bad q b f) = let n = ap given (same-said a b e f) in absurd (omega (arith, n))
steps-one {s} (StepsFound.more {x = x} {xs = xs} {stop = p} r a e t) (StepsFound.more {x = y} {xs = ys} q b f u) =
    let next : r.next ≡ q.next = ap (λ (z : Read). z.next) (read_one a b) in
    let rest = steps-one (subst (λ (i : ℕ). StepsFound s i xs p) next t) u in
    (ap (λ (z : Step). z ∷ xs) (step-one (same-said a b e f)) ∙ ap (λ (zs : List Step). y ∷ zs) rest.0, rest.1)

trace-one : {s : List ℕ} {z y : Sizes} {xs ys : List Step} {p q : Stop} → TraceFound s z xs p → TraceFound s y ys q
    → (z ≡ y) × ((xs ≡ ys) × (p ≡ q))
trace-one (TraceFound.bad r a e) (TraceFound.bad q b f) =
    (refl, (refl, ap (λ (v : Said). Stop.bad (get_or v.values 0 0) v.code) (same-said a b e f)))
trace-one (TraceFound.bad r a e) (TraceFound.opened q b f t) = let n = ap given (same-said a b e f) in absurd (omega (arith, n))
trace-one (TraceFound.opened r a e t) (TraceFound.bad q b f) = let n = ap given (same-said a b e f) in absurd (omega (arith, n))
trace-one {s} (TraceFound.opened {xs = xs} {stop = p} r a e t) (TraceFound.opened q b f u) =
    let same = read_one a b in
    (ap (λ (z : Read). z.sizes) same, steps-one (subst (λ (i : ℕ). StepsFound s i xs p) (ap (λ (z : Read). z.next) same) t) u)

stop-line-one : {p : Stop} {a b : List ℕ} → StopLine p a → StopLine p b → a ≡ b
stop-line-one StopLine.none StopLine.none = refl
stop-line-one (StopLine.stopped a) (StopLine.stopped b) =
    ap (λ (l : List ℕ). 115 ∷ 116 ∷ 111 ∷ 112 ∷ 112 ∷ 101 ∷ 100 ∷ 32 ∷ l) (line-one a ∙ sym (line-one b))

module _ (each : ℕ → Moment → List ℕ → Type 0) (end : Made → List Moment → List ℕ → Type 0)
    (each-one : (n : ℕ) (m : Moment) (a b : List ℕ) → each n m a → each n m b → a ≡ b)
    (end-one : (m : Made) (ms : List Moment) (a b : List ℕ) → end m ms a → end m ms b → a ≡ b) where
  texts-one : {n : ℕ} {ms : List Moment} {a b : List ℕ} → EachText each n ms a → EachText each n ms b → a ≡ b
  texts-one EachText.none EachText.none = refl
  texts-one (EachText.more {n} {m} {a = a} {b = b} x r) (EachText.more {a = c} y t) =
      ap (λ (l : List ℕ). l ++ b) (each-one n m a c x y) ∙ ap (λ (l : List ℕ). c ++ l) (texts-one r t)

  pub printed-one : {f : ℕ} {heading : List ℕ} {k : Tables → Clock → Step → Stepped} {s p q : List ℕ} → Printed f heading each end k s p
      → Printed f heading each end k s q → p ≡ q
  printed-one {f} {heading} {k} (Printed.printed {z} {xs} {stop} {m} {a} {b} {c} t d e n l h) (Printed.printed {xs = ys} {m = o} {a = a'} {b = b'} {c = c'} t' d' e' n' l' h') =
      let same = trace-one t t' in
      let making : m ≡ o = made_one (subst (λ (y : Sizes). MadeOf y (Some f) m) same.0 d) d' in
      let run : moments_by k m.tables m.clock xs ≡ moments_by k o.tables o.clock ys =
      ap (λ (x : Made). moments_by k x.tables x.clock xs) making ∙ ap (λ (zs : List Step). moments_by k o.tables o.clock zs) same.1.0 in
      let lines = texts-one (subst (λ (ms : List Moment). EachText each 1 ms a) run e) e' in
      let last = end-one o (moments_by k o.tables o.clock ys) b b' (subst (λ (x : Made). end x (moments_by k o.tables o.clock ys) b) making (subst (λ (ms : List Moment). end m ms b) run n)) n' in
      let stops = stop-line-one (subst (λ (x : Stop). StopLine x c) same.1.1 l) l' in
      h ∙ ap (λ (x : List ℕ). heading ++ (x ++ (b ++ c))) lines ∙ ap (λ (x : List ℕ). heading ++ (a' ++ (x ++ c))) last
      ∙ ap (λ (x : List ℕ). heading ++ (a' ++ (b' ++ x))) stops ∙ sym h'

-- ---- what is printed

-- what is known behind the last of some steps, the first of which is record n
abbrev pub last_seen : ℕ → Seen → List Step → Seen
last_seen n x [] = x
last_seen n x (s ∷ ss) = last_seen (n + 1) (seen_after n x s) ss

each_text : Parts → ℕ → Seen → List Step → List ℕ
each_text v n x [] = []
each_text v n x (s ∷ ss) = parts_text (seen_after n x s) v.step v.steps ++ each_text v (n + 1) (seen_after n x s) ss

records-split : (v : Parts) (n : ℕ) (x : Seen) (ss : List Step) (stop : Found)
    → records_text v n x ss stop ≡ each_text v n x ss ++ (parts_text (last_seen n x ss) v.end v.ends ++ stop_text stop)
unfolding records_text each_text
records-split v n x [] stop = refl
records-split v n x (s ∷ ss) stop =
    ap (λ (l : List ℕ). parts_text (seen_after n x s) v.step v.steps ++ l) (records-split v (n + 1) (seen_after n x s) ss stop)
    ∙ sym (append_assoc (parts_text (seen_after n x s) v.step v.steps) (each_text v (n + 1) (seen_after n x s) ss)
    (parts_text (last_seen (n + 1) (seen_after n x s) ss) v.end v.ends ++ stop_text stop))

stop_is : (f : Found) → StopLine (stop_of f) (stop_text f)
unfolding row_text word_text rows
stop_is Found.Opened = StopLine.none
stop_is (Found.Stepped x) = StopLine.none
stop_is Found.Ended = StopLine.none
stop_is (Found.Refused code number) =
    rw (append-nil (decimal code), append_assoc (decimal number) (32 ∷ decimal code) (10 ∷ [])) (StopLine.stopped (line-is number (code ∷ [])))

module _ (w : View) (heading : List ℕ) (each : ℕ → Moment → List ℕ → Type 0) (end : Made → List Moment → List ℕ → Type 0)
    (head-is : parts_text (fresh_seen no_sizes) (view_parts w).head (view_parts w).heads ≡ heading)
    (each-is : (n : ℕ) (x : Seen) (s : Step)
    → each n (moment_by stepped x.tables x.clock s) (parts_text (seen_after n x s) (view_parts w).step (view_parts w).steps))
    (end_is : (z : Sizes) (xs : List Step)
    → end (made z listed_rate) (moments_by stepped (made z listed_rate).tables (made z listed_rate).clock xs)
    (parts_text (last_seen 1 (fresh_seen z) xs) (view_parts w).end (view_parts w).ends))
    (each-one : (n : ℕ) (m : Moment) (a b : List ℕ) → each n m a → each n m b → a ≡ b)
    (end-one : (m : Made) (ms : List Moment) (a b : List ℕ) → end m ms a → end m ms b → a ≡ b) where
  texts-are : (n : ℕ) (x : Seen) (ss : List Step) → EachText each n (moments_by stepped x.tables x.clock ss) (each_text (view_parts w) n x ss)
  unfolding each_text seen_after
  texts-are n x [] = EachText.none
  texts-are n x (s ∷ ss) =
      EachText.more (each-is n x s)
      (subst
      (λ (i : ℕ).
      EachText each i (moments_by stepped (stepped x.tables x.clock s).tables (stepped x.tables x.clock s).clock ss)
      (each_text (view_parts w) (n + 1) (seen_after n x s) ss))
      (add-one n) (texts-are (n + 1) (seen_after n x s) ss))

  -- the run at the frequency f of what a trace holds
  abbrev run_at : ℕ → List ℕ → List Moment
  run_at f s = moments_by stepped (made (read_all s).sizes (Some f)).tables (made (read_all s).sizes (Some f)).clock (read_all s).steps

  abbrev steps_text : List ℕ → List ℕ
  steps_text s = each_text (view_parts w) 1 (fresh_seen (read_all s).sizes) (read_all s).steps

  abbrev end_text : List ℕ → List ℕ
  end_text s = parts_text (last_seen 1 (fresh_seen (read_all s).sizes) (read_all s).steps) (view_parts w).end (view_parts w).ends

  -- the view's text, if that run has it, is what the paper tells, and nothing else is
  told_at : (f : ℕ) → ((s : List ℕ) → EachText each 1 (run_at f s) (steps_text s)) → ((s : List ℕ) → end (made (read_all s).sizes (Some f)) (run_at f s) (end_text s))
      → Told f heading each end stepped (view_text w)
  unfolding view_text
  told_at f texts ends = record { is = is; only = λ s text p. printed-one each end each-one end-one p (is s) }
    where
      is : (s : List ℕ) → Printed f heading each end stepped s (view_text w s)
      is s =
          let r : Reading = read_all s in
          Printed.printed (all_found s) (made-is r.sizes (Some f)) (texts s) (ends s) (stop_is r.stop)
          (ap (λ (l : List ℕ). l ++ reading_text (view_parts w) r) head-is
          ∙ ap (λ (l : List ℕ). heading ++ l) (records-split (view_parts w) 1 (fresh_seen r.sizes) r.steps r.stop))

  given-texts : (s : List ℕ) → EachText each 1 (run_at 1000 s) (steps_text s)
  given-texts s = texts-are 1 (fresh_seen (read_all s).sizes) (read_all s).steps

  -- at the frequency that is given
  pub view-told : Told 1000 heading each end stepped (view_text w)
  view-told = told_at 1000 given-texts (λ s. end_is (read_all s).sizes (read_all s).steps)

  -- at any, if nothing that stands in the view is read off the clock
  module _ (each-blind : (n : ℕ) (m : Moment) (d : Clock) (a : List ℕ) → each n m a → each n (moment_at d m) a)
      (end-blind : (m o : Made) (ms ns : List Moment) (a : List ℕ) → m.tables ≡ o.tables → Alike ms ns → end m ms a → end o ns a) where
    texts-alike : {n : ℕ} {ms ns : List Moment} {a : List ℕ} → Alike ms ns → EachText each n ms a → EachText each n ns a
    texts-alike Alike.none EachText.none = EachText.none
    texts-alike (Alike.more {m} {d} r) (EachText.more {n} {a = a} x t) = EachText.more (each-blind n m d a x) (texts-alike r t)

    pub view-any : (f : ℕ) → Possible f → Told f heading each end stepped (view_text w)
    view-any f possible =
        told_at f (λ s. texts-alike (same s).1 (given-texts s)) (λ s. end-blind _ _ _ _ _ (same s).0 (same s).1 (end_is (read_all s).sizes (read_all s).steps))
      where
        same : (s : List ℕ) → ((made (read_all s).sizes (Some 1000)).tables ≡ (made (read_all s).sizes (Some f)).tables) × Alike (run_at 1000 s) (run_at f s)
        same s = fresh-alike (read_all s).sizes 1000 f (record { low = omega arith; high = omega arith }) possible (read_all s).steps
