-- What the entries of one owner leave of another's share.
use Rattle.std.proofs.Common.{◌≡◌, ℕ, ◌<◌, Bool, true, false, not, List, [], ◌∷◌, Option, Some, None, refl, sym, ap, ◌∙◌, subst}
use Rattle.std.specs.Prelude.{◌==◌, ◌&&◌, ◌||◌, All, filter, find, map, if◌then◌else◌}
use Rattle.std.specs.Option.{option_map}
use Rattle.std.proofs.lemmas.Option.{same_Some}
use Rattle.std.proofs.Math.Bool.{and-false, or-true}
use Rattle.annex_base.specs.Lists.{Each}
use Rattle.annex_base.specs.declared.kinds.Call.{Call}
use Rattle.annex_base.specs.declared.kinds.Call.TheVariants.{Unhold}
use Rattle.annex_base.proofs.Conditions.{eqb_sym}
use Rattle.annex_base.proofs.Lists.{Each-filter}
use Rattle.run_data.specs.declared.entry.By.{By}
use Rattle.run_data.specs.declared.entry.By.TheVariants.{Script, Job, Peer}
use Rattle.run_data.specs.declared.entry.EntryKind.{EntryKind}
use Rattle.run_data.specs.declared.entry.EntryKind.TheVariants as kinds
use Rattle.run_data.specs.declared.job.Outcome.{Outcome}
use Rattle.run_data.specs.declared.row.Hold.{Hold}
use Rattle.node_model.specs.Rows.{holds_after, is_lost_ordered, keep_of, same_owner}
use Rattle.content_lock.specs.Owners.{IsOwners}
use Rattle.content_lock.specs.Tokens.{Owns, ShareView, open_share, others_of, share_of, without_open}
use Rattle.content_lock.proofs.TokenLemmas.{Stays, each_filtered, each_passing, each_stays, kept_stays, opens, other_stays, others_own_new, stays_each}

owner_sym : (a b : By) → same_owner a b ≡ false → same_owner b a ≡ false
owner_sym Script Script differ = differ
owner_sym Script (Job j) differ = refl
owner_sym Script (Peer q t) differ = refl
owner_sym (Job i) Script differ = refl
owner_sym (Job i) (Job j) differ = eqb_sym j i ∙ differ
owner_sym (Job i) (Peer q t) differ = refl
owner_sym (Peer p s) Script differ = refl
owner_sym (Peer p s) (Job j) differ = refl
owner_sym (Peer p s) (Peer q t) differ = (λ i. eqb_sym q p i && eqb_sym t s i) ∙ differ

-- ---- the owner's holds are kept

number_kept : (owner : By) (h : Hold) → (keep_of owner h).number ≡ h.number
number_kept owner h = go (same_owner h.owner owner)
  where
    go : (b : Bool) → (if b then record h { kept = true } else h).number ≡ h.number
    go true = refl
    go false = refl

stays_kept : (owner by : By) (h : Hold) → Stays by h → Stays by (keep_of owner h)
stays_kept owner by h stays = go (same_owner h.owner owner)
  where
    go : (b : Bool) → Stays by (if b then record h { kept = true } else h)
    go true = kept_stays by (record h { kept = true }) refl
    go false = stays

each_kept : (owner by : By) (hs : List Hold) → Each (Stays by) hs → Each (Stays by) (map (keep_of owner) hs)
each_kept owner by [] each = tt
each_kept owner by (h ∷ hs) each = (stays_kept owner by h each.0, each_kept owner by hs each.1)

others_kept : (owner : By) (m : ℕ) (hs : List Hold) → others_of m (map (keep_of owner) hs) ≡ map (keep_of owner) (others_of m hs)
others_kept owner m [] = refl
others_kept owner m (h ∷ hs) =
    ap (λ (n : ℕ). if not (n == m) then keep_of owner h ∷ others_of m (map (keep_of owner) hs) else others_of m (map (keep_of owner) hs)) (number_kept owner h)
    ∙ go (not (h.number == m)) (others_kept owner m hs)
  where
    go : (b : Bool) → others_of m (map (keep_of owner) hs) ≡ map (keep_of owner) (others_of m hs)
        → (if b then keep_of owner h ∷ others_of m (map (keep_of owner) hs) else others_of m (map (keep_of owner) hs)) ≡ map (keep_of owner) (if b then h ∷ others_of m hs else others_of m hs)
    go true ih = ap (λ (l : List Hold). keep_of owner h ∷ l) ih
    go false ih = ih

-- one that isn't the open hold of this number isn't it when it is kept
still_closed : (owner : By) (n : ℕ) (h : Hold) → opens n h ≡ false → opens n (keep_of owner h) ≡ false
still_closed owner n h is = go (same_owner h.owner owner)
  where
    go : (b : Bool) → opens n (if b then record h { kept = true } else h) ≡ false
    go true = and-false (h.number == n)
    go false = is

module _ (owner : By) (t : ShareView) (differ : same_owner t.owner owner ≡ false) where
  -- the share's hold is another owner's
  found_other : (h : Hold) (rest : Option Hold) → opens t.number h ≡ true → option_map share_of (if opens t.number h then Some h else rest) ≡ Some t → share_of h ≡ t
  found_other h rest is has = same_Some (share_of h) t (sym (ap (λ (b : Bool). option_map share_of (if b then Some h else rest)) is) ∙ has)

  other_owner : (h : Hold) → share_of h ≡ t → same_owner h.owner owner ≡ false
  other_owner h it = ap (λ (s : ShareView). same_owner s.owner owner) it ∙ differ

  given_kept : (hs : List Hold) → open_share hs t.number ≡ Some t → open_share (map (keep_of owner) hs) t.number ≡ Some t
  given_kept [] has = has
  given_kept (h ∷ hs) has = go (given_kept hs) (opens t.number h) refl
    where
      later : Option Hold
      later = find (opens t.number) (map (keep_of owner) hs)

      go : (open_share hs t.number ≡ Some t → open_share (map (keep_of owner) hs) t.number ≡ Some t) → (b : Bool) → opens t.number h ≡ b → open_share (map (keep_of owner) (h ∷ hs)) t.number ≡ Some t
      go ih true is =
          let it : share_of h ≡ t = found_other h (find (opens t.number) hs) is has in
          ap (λ (x : Hold). option_map share_of (if opens t.number x then Some x else later)) (other_stays owner h (other_owner h it))
          ∙ (ap (λ (b : Bool). option_map share_of (if b then Some h else later)) is ∙ ap (λ (s : ShareView). Some s) it)
      go ih false is =
          ap (λ (b : Bool). option_map share_of (if b then Some (keep_of owner h) else later)) (still_closed owner t.number h is)
          ∙ ih (sym (ap (λ (b : Bool). option_map share_of (if b then Some h else find (opens t.number) hs)) is) ∙ has)

  given_freed : (hs : List Hold) → open_share hs t.number ≡ Some t → open_share (without_open owner hs) t.number ≡ Some t
  given_freed [] has = has
  given_freed (h ∷ hs) has = go (given_freed hs) (opens t.number h) refl (h.kept || not (same_owner h.owner owner)) refl
    where
      rest : List Hold
      rest = without_open owner hs

      before : opens t.number h ≡ false → open_share hs t.number ≡ Some t
      before closed = sym (ap (λ (b : Bool). option_map share_of (if b then Some h else find (opens t.number) hs)) closed) ∙ has

      go : (open_share hs t.number ≡ Some t → open_share rest t.number ≡ Some t) → (b : Bool) → opens t.number h ≡ b → (c : Bool) → (h.kept || not (same_owner h.owner owner)) ≡ c → option_map share_of (find (opens t.number) (if h.kept || not (same_owner h.owner owner) then h ∷ rest else rest)) ≡ Some t
      go ih true is c passes =
          let it : share_of h ≡ t = found_other h (find (opens t.number) hs) is has in
          let stays : (h.kept || not (same_owner h.owner owner)) ≡ true = ap (λ (m : Bool). h.kept || not m) (other_owner h it) ∙ or-true h.kept in
          ap (λ (d : Bool). option_map share_of (find (opens t.number) (if d then h ∷ rest else rest))) stays
          ∙ (ap (λ (b : Bool). option_map share_of (if b then Some h else find (opens t.number) rest)) is ∙ ap (λ (s : ShareView). Some s) it)
      go ih false is true passes =
          ap (λ (d : Bool). option_map share_of (find (opens t.number) (if d then h ∷ rest else rest))) passes
          ∙ (ap (λ (b : Bool). option_map share_of (if b then Some h else find (opens t.number) rest)) is ∙ ih (before is))
      go ih false is false passes = ap (λ (d : Bool). option_map share_of (find (opens t.number) (if d then h ∷ rest else rest))) passes ∙ ih (before is)

others_own_keep : (hs : List Hold) (owner by : By) (share : Option ShareView) → same_owner by owner ≡ false → Owns by share hs → Owns by share (map (keep_of owner) hs)
others_own_keep hs owner by None differ owns = record {
  owner = refl;
  given = refl;
  kept = each_stays by (map (keep_of owner) hs) (each_kept owner by hs (stays_each by hs owns.kept));
}
others_own_keep hs owner by (Some t) differ owns =
    let rest = others_kept owner t.number hs in
    record {
      owner = owns.owner;
      given = given_kept owner t (ap (λ (b : By). same_owner b owner) owns.owner ∙ differ) hs owns.given;
      kept = ap (map (keep_of by)) rest
          ∙ (each_stays by (map (keep_of owner) (others_of t.number hs)) (each_kept owner by (others_of t.number hs) (stays_each by (others_of t.number hs) owns.kept)) ∙ sym rest);
    }

-- ---- the owner's open holds are taken off

others_own_freed : (hs : List Hold) (owner by : By) (share : Option ShareView) → same_owner by owner ≡ false → Owns by share hs → Owns by share (without_open owner hs)
others_own_freed hs owner by None differ owns = record {
  owner = refl;
  given = refl;
  kept = each_stays by (without_open owner hs) (Each-filter (Stays by) (λ h. h.kept || not (same_owner h.owner owner)) hs (stays_each by hs owns.kept));
}
others_own_freed hs owner by (Some t) differ owns = record {
  owner = owns.owner;
  given = given_freed owner t (ap (λ (b : By). same_owner b owner) owns.owner ∙ differ) hs owns.given;
  kept = each_stays by (others_of t.number (without_open owner hs))
      (each_filtered (Stays by) (λ h. not (h.number == t.number)) (without_open owner hs)
      (Each-filter (λ h. not (h.number == t.number) ≡ true → Stays by h) (λ h. h.kept || not (same_owner h.owner owner)) hs
      (each_passing (Stays by) (λ h. not (h.number == t.number)) hs (stays_each by (others_of t.number hs) owns.kept))));
}

-- ---- an entry of the owner's

ended : (job : ℕ) (outcome : Outcome) (hs : List Hold) (by : By) (share : Option ShareView) → same_owner by (Job job) ≡ false → Owns by share hs → Owns by share (holds_after hs (kinds.End job outcome))
ended job outcome hs by share differ owns = go (is_lost_ordered outcome)
  where
    go : (b : Bool) → Owns by share (if b then map (keep_of (Job job)) hs else filter (λ h. h.kept || not (same_owner h.owner (Job job))) hs)
    go true = others_own_keep hs (Job job) by share differ owns
    go false = others_own_freed hs (Job job) by share differ owns

pub others_keep : (owner by : By) (share : Option ShareView) (n : ℕ) (kind : EntryKind) (hs : List Hold) → IsOwners owner n kind → same_owner by owner ≡ false → All (λ h. h.number < n) hs → Owns by share hs → Owns by share (holds_after hs kind)
others_keep owner by share n (kinds.Share number end o key) hs is differ fresh owns =
    others_own_new (record { number = number; key = key; end = end; kept = false; owner = o }) hs by share (subst (λ (m : ℕ). All (λ (h : Hold). h.number < m) hs) (sym is.1) fresh)
    (ap (λ (o : By). same_owner o by) is.0 ∙ owner_sym by owner differ) owns
others_keep owner by share n (kinds.Fault Unhold o) hs is differ fresh owns = others_own_keep hs o by share (ap (same_owner by) is ∙ differ) owns
others_keep owner by share n (kinds.Fault call o) hs is differ fresh owns = owns
others_keep owner by share n (kinds.End job outcome) hs is differ fresh owns = ended job outcome hs by share (ap (same_owner by) is ∙ differ) owns
others_keep owner by share n (kinds.Release number key) hs is differ fresh owns = absurd is
others_keep owner by share n (kinds.Close peer slot client) hs is differ fresh owns = absurd is
others_keep owner by share n (kinds.Crash clock) hs is differ fresh owns = absurd is
others_keep owner by share n kind hs is differ fresh owns = owns
