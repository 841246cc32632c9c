-- Cases of what a step may be.
use Rattle.std.proofs.Common.{◌≡◌, Option, Some, None, sym, ◌∙◌, subst}
use Rattle.annex_base.specs.declared.kinds.Call.{Call}
use Rattle.annex_base.specs.Lists.{Member}
use Rattle.run_data.specs.declared.entry.FrameView.{FrameView}
use Rattle.node_model.specs.Look.{Look, Effect, unless}

-- what holds where a call fails, and else
pub unless_found : {X : Type 0} (P : X → Type 0) (c : Option Call) (fault : Call → X) (x : X) → ((call : Call) → P (fault call)) → P x → P (unless c fault x)
unless_found P None fault x f g = g
unless_found P (Some c) fault x f g = f c

-- what it takes is at hand
abbrev pub TakesAtHand : Look → Effect → Type 0
TakesAtHand k m = (f : FrameView) → m.taken ≡ Some f → Member f k.at_hand

pub takes_none : (k : Look) (m : Effect) → m.taken ≡ None → TakesAtHand k m
takes_none k m none f is = absurd (let no' : None ≡ Some f = sym none ∙ is in cc)

pub takes_one : (k : Look) (m : Effect) (f : FrameView) → m.taken ≡ Some f → Member f k.at_hand → TakesAtHand k m
takes_one k m f taken there g is =
    let one : Some f ≡ Some g = sym taken ∙ is in
    let same : f ≡ g = cc in
    subst (λ (h : FrameView). Member h k.at_hand) same there
