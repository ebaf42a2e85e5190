-- What is known of a value behind a reference, once it is opened, which its lifetime's token allows: what its type says of it. What stood
-- there is let go, so nothing is left to be closed.
use Rattle.std.proofs.Common.{ℕ, List, ◌∷◌}
use seplogic.Ra.Ura.{Ura}
use mir.Val.{Val}
use base.Fml.{GName, Lft, Share, flft, fobs, fbor}
use types.Logic.{Logic}
use types.Kit.{Item, Goal, Soaks, Seq, ‵, ◌$◌, drop}
use types.SemTy.{Body}
use denote.Laws.{Is, shows}
use denote.Memory.{mem, hidden_shr}
use denote.Opens.{Opens}
use denote.RattleType.{RattleType}
use denote.Steps.{opens, looks, facts}

module _ {M : Type 1} {𝓤 : Ura M} {𝓛 : Logic 𝓤} {K : Type 0} {Γ : List (Item 𝓤)} {G : Goal 𝓤 𝓛.H} where
  -- behind a `&mut`
  pub mut-known : K → Soaks G → (R : RattleType) {κ : Lft} {q : Share} {γ : GName} (h : R.Denot) (b o : ℕ)
      → ((vs : List Val) → Is R h vs → Seq K 𝓛 Γ G)
      → Seq K 𝓛 (‵ (fobs γ (R.coded.code h)) ∷ ‵ (fbor κ (Body (mem R) b o γ)) ∷ ‵ (flft κ q) ∷ Γ) G
  mut-known t z R h b o k = opens t z R {h = h} b o (λ vs. drop t $ facts t R (Is R) (shows 𝓛 R) h vs (λ is. drop t $ drop t $ drop t $ k vs is))

  -- and behind a `&`
  pub shr-known : K → Soaks G → (R : RattleType) → Opens 𝓛 R → {κ : Lft} {q : Share} (h : R.Denot) (b o : ℕ)
      → ((vs : List Val) → Is R h vs → Seq K 𝓛 Γ G) → Seq K 𝓛 (‵ (hidden_shr R κ h b o) ∷ ‵ (flft κ q) ∷ Γ) G
  shr-known t z R op h b o k = looks t z R op h b o (λ q vs. drop t $ facts t R (Is R) (shows 𝓛 R) h vs (λ is. drop t $ drop t $ k vs is))
