-- The side of a drop, and its target: its own repository of a local drop, its peer of a remote one.
use Rattle.std.proofs.Common.{◌≡◌, ◌≢◌, ℕ, Some, None, refl, sym, ap, ◌∙◌}
use Rattle.drop_proof.specs.declared.rule.Side.{Side}
use Rattle.drop_proof.specs.declared.rule.Side.TheVariants.{Local, Remote}
use Rattle.run_data.specs.declared.job.Job.{Job}
use Rattle.run_data.specs.declared.job.JobKind.TheVariants as kinds
use Rattle.node_model.specs.Jobs.{drop_side, or_own}

-- a drop by a, on this side, from this target
pub record Aims (a : ℕ) (what : Job) (side : Side) (to : ℕ) : Type 0 where
  pub drops : what.kind ≡ kinds.Drop
  pub side_is : drop_side what.kind what.peer ≡ side
  pub target_is : or_own a side what.peer ≡ to
  pub apart : side ≡ Remote → to ≢ a

module _ (a : ℕ) (what : Job) (side : Side) (to : ℕ) (aims : Aims a what side to) where
  pub not_both : side ≡ Local → side ≡ Remote → ⊥
  not_both l r = let both : Local ≡ Remote = sym l ∙ r in cc

  -- the target of a local drop
  pub own_target : side ≡ Local → to ≡ a
  own_target l = sym aims.target_is ∙ ap (λ q. or_own a q what.peer) l

  -- and of a remote one
  pub peer_target : side ≡ Remote → (c : ℕ) → what.peer ≡ Some c → c ≡ to
  peer_target r c is = sym (ap (or_own a Remote) is) ∙ (ap (λ q. or_own a q what.peer) (sym r) ∙ aims.target_is)

  -- which has one
  pub has_peer : side ≡ Remote → what.peer ≡ None → ⊥
  has_peer r none = let both : Local ≡ Remote = sym (λ i. drop_side (aims.drops i) (none i)) ∙ (aims.side_is ∙ r) in cc

  -- a drop from another repository is remote
  pub away : to ≢ a → side ≡ Remote
  away off = go side refl
    where
      go : (q : Side) → side ≡ q → side ≡ Remote
      go Local is = absurd (off (own_target is))
      go Remote is = is
