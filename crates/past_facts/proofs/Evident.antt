-- Bars, what a job heard, and the ends of its locked items.
use Rattle.node_model.specs.Clocks.{hold_time}
use Rattle.std.proofs.Common.{◌≡◌, ℕ, ◌+◌, ◌<◌, ◌≤◌, Bool, true, false, not, ◌&&◌, List, [], ◌∷◌, length, Some, None, ◌⊎◌, inl, inr, refl, sym, ap, ◌∙◌, subst, arith, min}
use Rattle.std.specs.Prelude.{fold, option_map, ◌==◌}
use Rattle.std.specs.List.{reduce}
use Rattle.std.proofs.lemmas.Bool.{and_parts, eqb-true, or_from}
use Rattle.annex_base.specs.Lists.{Each}
use Rattle.annex_base.proofs.Conditions.{eqb_refl}
use Rattle.annex_base.proofs.Lists.{Each-both, Each-weaker}
use Rattle.drop_proof.specs.declared.evidence.Evidence.{Evidence}
use Rattle.drop_proof.specs.declared.evidence.Kind.{Kind}
use Rattle.drop_proof.specs.declared.evidence.Kind.TheVariants.{Locked, Trusted, Recent}
use Rattle.drop_proof.specs.declared.rule.Need.{Need}
use Rattle.drop_proof.specs.declared.rule.Side.{Side}
use Rattle.drop_proof.specs.Judging.{ends, least_end}
use Rattle.run_data.specs.declared.entry.By.{By}
use Rattle.run_data.specs.declared.entry.Entry.{Entry}
use Rattle.run_data.specs.declared.entry.EntryKind.{EntryKind}
use Rattle.run_data.specs.declared.entry.EntryKind.TheVariants.{End}
use Rattle.run_data.specs.declared.job.Outcome.{Outcome}
use Rattle.run_data.specs.declared.run.RepoView.{RepoView}
use Rattle.run_model.specs.Past.{Decision, bar, clock, clock_set, decision, is_of}
use Rattle.node_model.specs.Rows.{is_lost_ordered}
use Rattle.run_model.specs.Drops.{Vouch, Lock, Look, offer_from, is_done, done_kind, evidence, key_of, reply, standing}
use Rattle.node_model.specs.Evidence.{Gives, candidates}
use Rattle.past_facts.specs.Lawful.{IsFresh}
use Rattle.past_facts.proofs.Heard.{heard_key}
use Rattle.past_facts.proofs.Own.{HeardOf, MessagePast}
use Rattle.past_facts.proofs.Lists.{Each-any}
use Rattle.past_facts.proofs.Changes.{BarOf, PutsBar, bar_was, decided_keeps, decided_new}
use Rattle.past_facts.proofs.Gather.{evidence_each, offer_end}
use Rattle.past_facts.proofs.Told.{heard_of, reply_heard}

-- ---- a bar that stands

-- it was put by the job, which isn't done
pub record Standing' (past : List Entry) (r j : ℕ) (key : List ℕ) : Type 0 where
  pub d : Decision
  pub decided_is : decision past r j ≡ Some d
  pub key_is : d.key ≡ key
  pub open' : is_done past r j ≡ false

pub done_end : (j : ℕ) (kind : EntryKind) → done_kind j kind ≡ true → (outcome : Outcome) × (kind ≡ End j outcome)
done_end j (End job outcome) h = let w = and_parts (job == j) (not (is_lost_ordered outcome)) h in (outcome, ap (λ x. End x outcome) (eqb-true job j w.0))
done_end j _ h = cc

bar_ended : (e : Entry) (past : List Entry) (r j : ℕ) (key : List ℕ) (outcome : Outcome) → is_of r e ≡ true → e.kind ≡ End j outcome → bar past r key ≡ Some j → bar (e ∷ past) r key ≡ None
bar_ended e past r j key outcome is kind h = rw (is, kind, h, eqb_refl j) refl

pub barred : (repos : List RepoView) (past : List Entry) (r j : ℕ) (key : List ℕ) → MessagePast repos past → bar past r key ≡ Some j → Standing' past r j key
barred repos [] r j key run h = absurd (cc)
barred repos (e ∷ past) r j key run h = go (λ k. barred repos past r j key run.1 k) (bar_was e past r key j h)
  where
    Barred : Type 0
    Barred = bar past r key ≡ Some j

    old : Barred → Standing' past r j key → Standing' (e ∷ past) r j key
    old b s = record { d = s.d; decided_is = keeps (decided_keeps e past r j s.d s.decided_is); key_is = s.key_is; open' = or_from (is_of r e && done_kind j e.kind) (is_done past r j) (not_now (is_of r e) refl (done_kind j e.kind) refl) s.open' }
      where
        keeps : (decision (e ∷ past) r j ≡ Some s.d) ⊎ BarOf e r j → decision (e ∷ past) r j ≡ Some s.d
        keeps (inl k) = k
        keeps (inr k) = let none : decision past r j ≡ None = ((run.0.own r k.repo_is).bar_put j k.need k.key k.kind_is).first in let it : Some s.d ≡ None = sym s.decided_is ∙ none in absurd (cc)

        not_now : (c : Bool) → is_of r e ≡ c → (d : Bool) → done_kind j e.kind ≡ d → (c && d) ≡ false
        not_now false is d k = refl
        not_now true is false k = refl
        not_now true is true k =
            let t = done_end j e.kind k in
            let none : bar (e ∷ past) r key ≡ None = bar_ended e past r j key t.0 is t.1 b in
            let it : Some j ≡ None = sym h ∙ none in absurd (cc)

    new : PutsBar e r key j → Standing' (e ∷ past) r j key
    new p = record {
      d = record { place = length past; key = key; need = p.need };
      decided_is = decided_new e past r j p.need key p.repo_is p.kind_is;
      key_is = refl;
      open' = or_from (is_of r e && done_kind j e.kind) (is_done past r j) (rw (p.repo_is, p.kind_is) refl) ((run.0.own r p.repo_is).bar_put j p.need key p.kind_is).open';
    }

    go : (Barred → Standing' past r j key) → Barred ⊎ PutsBar e r key j → Standing' (e ∷ past) r j key
    go ih (inl b) = old b (ih b)
    go ih (inr p) = new p

-- ---- keys

same_key : (v : Vouch) → heard_key (heard_of v) ≡ key_of v
same_key (Lock hold since owner key) = refl
same_key (Look key) = refl

pub told_of : (repos : List RepoView) (past : List Entry) (a j : ℕ) (key : List ℕ) → MessagePast repos past → HeardOf past a j key → (c : ℕ) (v : Vouch) → reply past a j c ≡ Some v → key_of v ≡ key
told_of repos past a j key run of c v h = sym (same_key v) ∙ of c (heard_of v) (sym (reply_heard repos past a j c run) ∙ ap (λ o. option_map heard_of o) h)

-- ---- ends

min_each : (a : ℕ) (ns : List ℕ) → (fold min a ns ≤ a) × Each (λ n. fold min a ns ≤ n) ns
min_each a [] = (omega arith, tt)
min_each a (n ∷ ns) = let t = min_each (min a n) ns in (omega (arith, t.0), (omega (arith, t.0), t.1))

least_each : (P : ℕ → Type 0) → ((x y : ℕ) → x ≤ y → P x → P y) → (ns : List ℕ) → ((first : ℕ) → reduce min ns ≡ Some first → P first) → Each P ns
least_each P up [] f = tt
least_each P up (n ∷ ns) f = let t = min_each n ns in let first : P (fold min n ns) = f (fold min n ns) refl in (up (fold min n ns) n t.0 first, Each-weaker (λ m. fold min n ns ≤ m) P (λ m le. up (fold min n ns) m le first) ns t.1)

-- a fact of the least end holds of each locked item's
pub each_end : (P : ℕ → Type 0) → ((x y : ℕ) → x ≤ y → P x → P y) → (items : List Evidence) → ((first : ℕ) → least_end items ≡ Some first → P first) → Each (λ i. (end : ℕ) → i.kind ≡ Locked end → P end) items
each_end P up items f = spread items (least_each P up (ends items) f)
  where
    one : (repo : ℕ) (kind : Kind) (is : List Evidence) → (Each P (ends is) → Each (λ i. (end : ℕ) → i.kind ≡ Locked end → P end) is) → Each P (ends (record { repo = repo; kind = kind } ∷ is))
        → ((end : ℕ) → kind ≡ Locked end → P end) × Each (λ i. (end : ℕ) → i.kind ≡ Locked end → P end) is
    one repo (Locked e) is ih h = ((λ end k. let same : e ≡ end = cc in subst P same h.0), ih h.1)
    one repo Trusted is ih h = ((λ end k. absurd (cc)), ih h)
    one repo Recent is ih h = ((λ end k. absurd (cc)), ih h)

    spread : (items : List Evidence) → Each P (ends items) → Each (λ i. (end : ℕ) → i.kind ≡ Locked end → P end) items
    spread [] h = tt
    spread (i ∷ is) h = one i.repo i.kind is (λ k. spread is k) h

-- ---- in time

-- a locked item ends ten minutes after it was asked for
pub item_ends : (side : Side) (repos : List RepoView) (past : List Entry) (a j target : ℕ) (need : Need)
    → Each (λ i. (end hold since : ℕ) (owner : By) (k : List ℕ) → i.kind ≡ Locked end → reply past a j i.repo ≡ Some (Lock hold since owner k) → end ≡ clock repos past a since + hold_time) (evidence side repos past a j target need)
item_ends side repos past a j target need = evidence_each _ (λ c. Unit {0}) side repos past a j target need
    (λ c kind u g end hold since owner k is said. offer_end (clock repos past a) (standing repos past a j c) (reply past a j c) hold since end owner k (ap_gives c kind end g is) said)
    (Each-any (candidates side (length repos) a target))
  where
    ap_gives : (c : ℕ) (kind : Kind) (end : ℕ) → offer_from repos past a j c ≡ Gives kind → kind ≡ Locked end → offer_from repos past a j c ≡ Gives (Locked end)
    ap_gives c kind end g is = g ∙ ap (λ k. Gives k) is

-- the clock of a job was set before it asked for what it was told of
abbrev pub SetBefore : List RepoView → List Entry → ℕ → ℕ → Type 0
SetBefore repos past a j = (c hold since : ℕ) (owner : By) (key : List ℕ) → reply past a j c ≡ Some (Lock hold since owner key) → (clock_set repos past a).at ≤ since

-- where the job's clock is below each end, the locked items are fresh
pub fresh_items : (side : Side) (repos : List RepoView) (past : List Entry) (a j target time : ℕ) (need : Need) → SetBefore repos past a j
    → Each (λ i. (end : ℕ) → i.kind ≡ Locked end → clock repos past a time < end) (evidence side repos past a j target need) → Each (IsFresh past a j time) (evidence side repos past a j target need)
fresh_items side repos past a j target time need before below =
    Each-both _ _ (IsFresh past a j time) (λ i at lt end hold since owner k is said. later time since end (before i.repo hold since owner k said) (at end hold since owner k is said) (lt end is))
    (evidence side repos past a j target need) (item_ends side repos past a j target need) below
  where
    later : (t since end : ℕ) → (clock_set repos past a).at ≤ since → end ≡ clock repos past a since + hold_time → clock repos past a t < end → t < since + hold_time
    later t since end b e l = omega (arith, b, e, l)
