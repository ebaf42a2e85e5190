-- A mailbox that a step has reset stays in reset while the step settles: no call that goes on serves its other side.
use Rattle.std.specs.Prelude.{ℕ, ◌≡◌, ◌≢◌}
use Rattle.std.proofs.Common.{arith, sym, ap, ◌∙◌, subst}
use Rattle.kernel.specs.declared.records.Call.{Call}
use Rattle.kernel.specs.declared.time.SystemTime.{SystemTime}
use Rattle.kernel.proofs.Cases.{same_or}
use Rattle.library.specs.declared.calls.Step.{Step}
use Rattle.library.specs.declared.tables.Mailbox.{Mailbox}
use Rattle.library.specs.declared.tables.Tables.{Tables}
use Rattle.promises.specs.Paper.World.{World, box_to}
use Rattle.promises.specs.Paper.Rows.{Waits, Post, Fetch, Act}
use Rattle.promises.specs.Paper.Settling.{Continued}
use Rattle.promises.specs.Runs.Keeping.{put_same, put_other}
use Rattle.promises.specs.Runs.Deeds.{release-calm}

-- the mailbox that a step of kind 18 resets is in reset
abbrev pub Closed : Step → World → Type 0
Closed s w = s.kind ≡ 18 → (w.box s.object).reset ≢ 0

-- once the step has acted
pub closed-act : {t : Tables} {now : SystemTime} {s : Step} {x : World} → Act t now s x 18 → (x.box s.object).reset ≢ 0
closed-act {s = s} {x = x} (Act.mailbox-reset v u h g e) z =
    let one : (x.box s.object).reset ≡ 1 = ap (λ (y : World). (y.box s.object).reset) e ∙ ap (λ (b : Mailbox). b.reset) (put_same u.box s.object _) in
    omega (arith, one, z)

-- and after each call that goes on, as mailbox o
module _ (o : ℕ) where
  abbrev Shut : (ℕ → Mailbox) → Type 0
  Shut box = (box o).reset ≢ 0

  same-boxes : (f g : ℕ → Mailbox) → g ≡ f → Shut f → Shut g
  same-boxes f g e h z = h (sym (ap (λ (k : ℕ → Mailbox). (k o).reset) e) ∙ z)

  waiting : {w x : World} {i st pl : ℕ} {c : Call} → Waits w i st pl c x → x.box ≡ w.box
  waiting (Waits.now a e) = ap (λ (y : World). y.box) e
  waiting (Waits.later a e) = ap (λ (y : World). y.box) e

  -- one that is at work changes: so it is another
  other-box : (w v : World) (b : ℕ) (x : Mailbox) → v.box ≡ w.box → (w.box b).reset ≡ 0 → Shut w.box → Shut (box_to v b x).box
  other-box w v b x e a h =
      same_or o b (λ d. absurd (h (subst (λ (n : ℕ). (w.box n).reset ≡ 0) (sym d) a)))
      (λ d z. same-boxes w.box v.box e h (sym (ap (λ (y : Mailbox). y.reset) (put_other v.box b o x d)) ∙ z))

  post-shut : {w x : World} {i : ℕ} {c : Call} → Post w i c x → Shut w.box → Shut x.box
  post-shut (Post.in-reset a e) h = same-boxes _ _ (ap (λ (y : World). y.box) e) h
  post-shut {w} {c = c} (Post.behind a l b v r e) h = same-boxes _ _ (ap (λ (y : World). y.box) e) (other-box w v c.object _ (release-calm r).boxes a h)
  post-shut {w} {c = c} (Post.ahead a l b v r e) h = same-boxes _ _ (ap (λ (y : World). y.box) e) (other-box w v c.object _ (release-calm r).boxes a h)
  post-shut (Post.no_room a l r) h = same-boxes _ _ (waiting r) h

  fetch-shut : {w x : World} {i : ℕ} {c : Call} → Fetch w i c x → Shut w.box → Shut x.box
  fetch-shut (Fetch.in-reset a e) h = same-boxes _ _ (ap (λ (y : World). y.box) e) h
  fetch-shut {w} {c = c} (Fetch.message a l v r e) h = same-boxes _ _ (ap (λ (y : World). y.box) e) (other-box w v c.object _ (release-calm r).boxes a h)
  fetch-shut (Fetch.no-message a l r) h = same-boxes _ _ (waiting r) h

  pub closed_on : {w x : World} {i : ℕ} → Continued w i x → Shut w.box → Shut x.box
  closed_on (Continued.flags k m e) = same-boxes _ _ (ap (λ (y : World). y.box) e)
  closed_on (Continued.posts k m r) = post-shut r
  closed_on (Continued.fetches k m r) = fetch-shut r
  closed_on (Continued.takes k m e) = same-boxes _ _ (ap (λ (y : World). y.box) e)
  closed_on (Continued.answers k e) = same-boxes _ _ (ap (λ (y : World). y.box) e)
