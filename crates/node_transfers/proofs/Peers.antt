-- The peers with which a transfer talks, and to which it sends next.
use Rattle.std.proofs.Common.{◌≡◌, inl, inr, ℕ, zero, suc, ◌+◌, ◌<◌, Bool, true, false, if◌then◌else◌, List, [], ◌∷◌, filter, length, Option, Some, None, refl, sym, ap, subst, ◌∙◌, arith}
use Rattle.std.specs.Prelude.{◌&&◌, ◌==◌, not, slice_get, IfSome}
use Rattle.std.specs.List.{range_with_len}
use Rattle.std.specs.Option.{option_to_list}
use Rattle.annex_base.specs.Lists.{Member}
use Rattle.annex_base.proofs.Lists.{Member-filter_parts}
use Rattle.run_data.specs.declared.job.Outcome.{Outcome}
use Rattle.node_model.specs.Jobs.{Drops, Gets, Part, Phase, Puts, partner}
use Rattle.node_model.specs.Jobs as models
use Rattle.node_model.specs.JobStep.{Turn, end_needs, end_with, has_lock, locked_peers, others_of}
use Rattle.node_model.specs.Rows.{is_lost_ordered}
use Rattle.node_model.specs.TransferStep.{next_source, sources}
use Rattle.node_model.specs.Turns.{is_awaiting, needs, next_needs, outcome_of, peer_needs}

-- a job that sends bytes to a peer, and awaits no frame, needs room there alone
pub partner_needs : (t : Turn) (target : Option ℕ) (phase : Phase) (peer : ℕ) → is_awaiting phase ≡ false → partner target phase ≡ Some peer → needs t phase ≡ peer ∷ []
partner_needs t target (models.PutsBytes p start at left) peer waits is = let same : p ≡ peer = cc in ap (λ (n : ℕ). n ∷ []) same
partner_needs t target (models.PutsWord p start) peer waits is = let same : p ≡ peer = cc in ap (λ (n : ℕ). n ∷ []) same
partner_needs t target models.Fresh peer waits is = absurd cc
partner_needs t target models.Next peer waits is = absurd cc
partner_needs t target (models.Opens p) peer waits is = absurd cc
partner_needs t target (models.Greets p) peer waits is = absurd cc
partner_needs t target (models.GetsData p start) peer waits is = absurd cc
partner_needs t target (models.GetsBytes p start size left) peer waits is = absurd cc
partner_needs t target (models.GetsWord p start size) peer waits is = absurd cc
partner_needs t target (models.PutsOffer p) peer waits is = absurd cc
partner_needs t target (models.PutsAnswer p start) peer waits is = absurd cc
partner_needs t target (models.AsksLock p since) peer waits is = absurd cc
partner_needs t target (models.AsksLook p) peer waits is = absurd cc
partner_needs t target models.AsksTime peer waits is = absurd cc
partner_needs t target models.Orders peer waits is = absurd cc
partner_needs t target models.Removed peer waits is = absurd cc
partner_needs t target models.Denied peer waits is = absurd cc
partner_needs t target (models.Late time) peer waits is = absurd cc
partner_needs t target (models.Ends outcome) peer waits is = absurd cc

-- ---- to whom a job sends next, which stands on no connection

-- a job that heard nothing sends to none as it ends
none_kept : (p : ℕ → Bool) (xs : List ℕ) → ((n : ℕ) → p n ≡ false) → filter p xs ≡ []
none_kept p [] none = refl
none_kept p (x ∷ xs) none = rw (none x) (none_kept p xs none)

none_locked : (t : Turn) → t.w.heard ≡ [] → locked_peers t ≡ []
none_locked t heard = none_kept (λ peer. has_lock t peer && (end_with t peer).opened) (others_of t) (λ n. rw heard refl)

none_at_end : (t : Turn) (outcome : Outcome) (peer : ℕ) → t.w.heard ≡ [] → end_needs t outcome ≡ peer ∷ [] → ⊥
none_at_end t outcome peer heard is = go (is_lost_ordered outcome) is
  where
    go : (b : Bool) → (if b then [] else locked_peers t) ≡ peer ∷ [] → ⊥
    go true e = cc
    go false e = (let none : [] ≡ peer ∷ [] = sym (none_locked t heard) ∙ e in cc)

listed_one : (o : Option ℕ) (peer : ℕ) → option_to_list o ≡ peer ∷ [] → o ≡ Some peer
listed_one None peer is = absurd cc
listed_one (Some p) peer is = let same : p ≡ peer = cc in ap (λ (n : ℕ). Some n) same

one_there : (p n peer : ℕ) → slice_get (p ∷ []) n ≡ Some peer → p ≡ peer
one_there p zero peer is = cc
one_there p (suc n) peer is = absurd cc

member_there : (xs : List ℕ) (n peer : ℕ) → slice_get xs n ≡ Some peer → Member peer xs
member_there [] n peer is = absurd cc
member_there (x ∷ xs) zero peer is = inl (sym (let same : x ≡ peer = cc in same))
member_there (x ∷ xs) (suc n) peer is = inr (member_there xs n peer is)

range_low : (a n k : ℕ) → Member k (range_with_len a n) → k < a + n
range_low a zero k there = absurd there
range_low a (suc n) k (inl same) = omega (arith, same)
range_low a (suc n) k (inr later) = let low = range_low (a + 1) n k later in omega (arith, low)

module _ (t : Turn) (count : ℕ) (all : t.read.count ≡ count) (heard : t.w.heard ≡ []) (peer : ℕ) where
  among_others : Member peer (others_of t) → peer < count
  among_others there =
      let low : peer < 0 + t.read.count = range_low 0 t.read.count peer (Member-filter_parts (λ x. not (x == t.read.repo)) (range_with_len 0 t.read.count) peer there).0 in
      subst (λ (n : ℕ). peer < n) all (omega (arith, low))

  source_known : (o : Option ℕ) → IfSome o (λ p. p < count) → slice_get (sources t o) (length t.w.causes) ≡ Some peer → peer < count
  source_known None names is = among_others (member_there (others_of t) (length t.w.causes) peer is)
  source_known (Some p) names is = subst (λ (n : ℕ). n < count) (one_there p (length t.w.causes) peer is) names

  named_known : (o : Option ℕ) → IfSome o (λ p. p < count) → o ≡ Some peer → peer < count
  named_known None names is = absurd cc
  named_known (Some p) names is = let same : p ≡ peer = cc in subst (λ (n : ℕ). n < count) same names

  module _ (names : IfSome t.w.what.peer (λ p. p < count)) where
    peer_known : (part : Part) → (part ≡ Drops → ⊥) → peer_needs t part ≡ peer ∷ [] → peer < count
    peer_known Gets other is = source_known t.w.what.peer names (listed_one (next_source t) peer is)
    peer_known Puts other is = named_known t.w.what.peer names (listed_one t.w.what.peer peer is)
    peer_known Drops other is = absurd (other refl)

    next_part : (part : Part) → (part ≡ Drops → ⊥) → next_needs t part ≡ peer ∷ [] → peer < count
    next_part Gets other is = peer_known Gets other is
    next_part Puts other is = peer_known Puts other is
    next_part Drops other is = absurd (other refl)

    -- it is one of the repositories
    pub next_known : (target : Option ℕ) (phase : Phase) → (t.w.part ≡ Drops → ⊥) → partner target phase ≡ None → needs t phase ≡ peer ∷ [] → peer < count
    next_known target models.Fresh other alone is = peer_known t.w.part other is
    next_known target models.Next other alone is = next_part t.w.part other is
    next_known target (models.PutsBytes p start at left) other alone is = absurd cc
    next_known target (models.PutsWord p start) other alone is = absurd cc
    next_known target (models.Opens p) other alone is = absurd cc
    next_known target (models.Greets p) other alone is = absurd cc
    next_known target (models.GetsData p start) other alone is = absurd cc
    next_known target (models.GetsBytes p start size left) other alone is = absurd cc
    next_known target (models.GetsWord p start size) other alone is = absurd cc
    next_known target (models.PutsOffer p) other alone is = absurd cc
    next_known target (models.PutsAnswer p start) other alone is = absurd cc
    next_known target (models.AsksLock p since) other alone is = absurd cc
    next_known target (models.AsksLook p) other alone is = absurd cc
    next_known target models.AsksTime other alone is = absurd (none_at_end t (outcome_of t models.AsksTime) peer heard is)
    next_known target models.Orders other alone is = absurd (none_at_end t (outcome_of t models.Orders) peer heard is)
    next_known target models.Removed other alone is = absurd (none_at_end t (outcome_of t models.Removed) peer heard is)
    next_known target models.Denied other alone is = absurd (none_at_end t (outcome_of t models.Denied) peer heard is)
    next_known target (models.Late time) other alone is = absurd (none_at_end t (outcome_of t (models.Late time)) peer heard is)
    next_known target (models.Ends outcome) other alone is = absurd (none_at_end t (outcome_of t (models.Ends outcome)) peer heard is)
