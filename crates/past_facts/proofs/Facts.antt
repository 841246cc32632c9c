-- The facts that every entry of a lawful past keeps.
use Rattle.node_model.specs.Clocks.{hold_time, runs_on, ClockSet}
use Rattle.std.proofs.Common.{◌≡◌, ℕ, ◌+◌, ◌-◌, ◌<◌, ◌≤◌, Bool, true, false, not, ◌&&◌, List, [], ◌∷◌, length, Option, Some, None, ◌⊎◌, inl, inr, refl, sym, ap, ◌∙◌, subst, arith}
use Rattle.std.specs.Prelude.{◌==◌, nat_lt, nat_le, count_by}
use Rattle.std.specs.List.{list_any, range_with_len}
use Rattle.std.proofs.lemmas.Bool.{true≢false, or_parts, cases_Bool, or_left, or_right}
use Rattle.std.proofs.lemmas.Bool.Decides.{nat_tests}
use Rattle.std.proofs.lemmas.Option.{same_Some}
use Rattle.run_data.specs.declared.entry.Entry.{Entry}
use Rattle.run_data.specs.declared.run.RepoView.{RepoView}
use Rattle.drop_proof.specs.declared.rule.Need.{Need}
use Rattle.run_data.specs.declared.job.Outcome.{Outcome}
use Rattle.run_data.specs.declared.entry.By.{By}
use Rattle.run_data.specs.declared.entry.By.TheVariants.{Script, Job as by_job, Peer}
use Rattle.drop_proof.specs.declared.evidence.Kind.{Kind}
use Rattle.drop_proof.specs.declared.evidence.Kind.TheVariants.{Locked, Trusted, Recent}
use Rattle.drop_proof.specs.declared.evidence.Evidence.{Evidence}
use Rattle.drop_proof.specs.declared.rule.Side.{Side}
use Rattle.drop_proof.specs.declared.rule.Side.TheVariants.{Local, Remote}
use Rattle.run_data.specs.declared.entry.EntryKind.{EntryKind}
use Rattle.run_data.specs.declared.entry.EntryKind.TheVariants.{Share, Check, Bar, Crash, Gone, End}
use Rattle.run_model.specs.Past.{present, bar, holds, decision, Decision, is_of, now, clock, clock_set}
use Rattle.node_model.specs.Rows.{is_blocked, is_lost_ordered}
use Rattle.run_model.specs.Drops.{Vouch, Lock, Look, key_of, vouch, vouches, reply, standing, offer_from, evidence, is_done, done_kind}
use Rattle.node_model.specs.Evidence.{Gives, is_trusted, candidates}
use Rattle.drop_proof.specs.Judging.{is_enough, counts}
use Rattle.run_model.specs.Safety.{Removal, removal, removals, add_removal, local_removal, remote_removal}
use Rattle.annex_base.specs.Lists.{Each, Member}
use Rattle.annex_base.proofs.Lists.{Each-both, Each-weaker, Member-append_cases}
use Rattle.annex_base.proofs.Conditions.{eqb_refl, bytes_eq-refl}
use Rattle.past_facts.specs.Lawful.{HasFreeContent, AreInTime, FoundRemote, IsFresh, IsLawfulEntry, since_of}
use Rattle.past_facts.proofs.Lists.{Each-any}
use Rattle.past_facts.proofs.Gather.{never_target, evidence_each, evidence_count, enough_m, offer_locked, offer_recent}
use Rattle.past_facts.proofs.Changes.{Crashes, TakesAway, crash_or, crash_sets, lasts_crash, set_by_now, present_stays, PutsBar, bar_was, decided_was, Shares, blocked_was, unblocked_later, lasts, lasts_stays, lasts-blocks, decided_keeps, decided_new, same_repo, removal_is, order_is, removal_was, Removes, Obeys, any_add, same_owner_refl, VouchedBy, vouch_was, own_lock, sender_before, reply_vouched}

abbrev pub is_later : ℕ → Removal → Bool
is_later place x = nat_lt place x.decision

-- whatever removes the key at r from now on, or has removed it since, decided later than this place
pub record LaterOnly (repos : List RepoView) (past : List Entry) (r place : ℕ) (key : List ℕ) : Type 0 where
  pub later : (j : ℕ) → bar past r key ≡ Some j → (d : Decision) × (decision past r j ≡ Some d) × (place < d.place)
  pub copy : (present past r key ≡ true) ⊎ (list_any (is_later place) (removals repos past key) ≡ true)

-- an item that counts, and isn't a claim
abbrev pub ItemOk : List RepoView → List Entry → List ℕ → Side → ℕ → Evidence → Type 0
ItemOk repos past key side place i = counts side i ≡ true → is_trusted i.kind ≡ false → LaterOnly repos past i.repo place key

-- what is known of a removal for ever
pub record RemovalOk (repos : List RepoView) (past : List Entry) (key : List ℕ) (x : Removal) : Type 0 where
  pub before : x.decision < length past
  pub items : Each (ItemOk repos past key x.side x.decision) x.items
  pub counted : (q : ℕ → Bool) → Each (λ i. counts x.side i ≡ true → q i.repo ≡ true) x.items → x.need.m ≤ count_by q (range_with_len 0 (length repos))

-- a lock that was vouched is recorded at r, and ends no earlier than ten minutes after it was asked for
abbrev pub Lasts : List RepoView → List Entry → ℕ → Vouch → Type 0
Lasts repos past r (Lock hold since owner key) = lasts (holds past r) hold (clock repos past r (since + hold_time)) owner key ≡ true
Lasts repos past r (Look key) = Unit {0}

pub record Facts (repos : List RepoView) (past : List Entry) : Type 0 where
  pub clocks : (r : ℕ) → (clock_set repos past r).at ≤ now past
  pub asked_by_now : (r a j : ℕ) (v : Vouch) → Member v (vouches past r a j) → since_of v ≤ now past
  pub bar_there : (r j : ℕ) (key : List ℕ) → bar past r key ≡ Some j → present past r key ≡ true
  pub bar_free : (r j t : ℕ) (key : List ℕ) → now past ≤ t → bar past r key ≡ Some j → is_blocked (holds past r) key (clock repos past r t) ≡ false
  pub guarded : (r a j hold since : ℕ) (owner : By) (key : List ℕ) → Member (Lock hold since owner key) (vouches past r a j) → is_done past a j ≡ false → now past < since + hold_time → present past r key ≡ true
  pub placed : (a j : ℕ) (d : Decision) → decision past a j ≡ Some d → d.place < length past
  pub vouched : (r a j : ℕ) (v : Vouch) (d : Decision) → Member v (vouches past r a j) → decision past a j ≡ Some d → LaterOnly repos past r d.place (key_of v)
  pub lasting : (r a j : ℕ) (v : Vouch) → Member v (vouches past r a j) → Lasts repos past r v ⊎ (is_done past a j ≡ true)
  pub removed : (key : List ℕ) → Each (RemovalOk repos past key) (removals repos past key)

-- ---- each fact is kept

decided_still : (repos : List RepoView) (past : List Entry) (e : Entry) → IsLawfulEntry repos past e → (a j : ℕ) (d : Decision) → decision past a j ≡ Some d → decision (e ∷ past) a j ≡ Some d
decided_still repos past e law a j d h = elim (decided_keeps e past a j d h) [
  | inl s ↦ s
  | inr t ↦ let w = law.bars a j t.need t.key t.repo_is t.kind_is in let none : decision past a j ≡ None = w.first in cc
]

later_still : (repos : List RepoView) (past : List Entry) (e : Entry) → IsLawfulEntry repos past e → (r place : ℕ) (key : List ℕ) → place < length past
    → LaterOnly repos past r place key → LaterOnly repos (e ∷ past) r place key
later_still repos past e law r place key lt old = record { later = later; copy = copy old.copy }
  where
    later : (j : ℕ) → bar (e ∷ past) r key ≡ Some j → (d : Decision) × (decision (e ∷ past) r j ≡ Some d) × (place < d.place)
    later j h = elim (bar_was e past r key j h) [
      | inl s ↦ let w = old.later j s in (w.0, decided_still repos past e law r j w.0 w.1, w.2)
      | inr t ↦ (record { place = length past; key = key; need = t.need }, decided_new e past r j t.need key t.repo_is t.kind_is, lt)
    ]

    gone : (by : By) → is_of r e ≡ true → e.kind ≡ Gone by key → list_any (is_later place) (removals repos (e ∷ past) key) ≡ true
    gone Script is kind = absurd (law.drops key kind)
    gone (by_job j) is kind =
        let w = law.removes r j key is kind in
        let o = old.later j w.barred in
        let same : Some o.0 ≡ Some w.d = sym o.1 ∙ w.decided_is in
        let at : o.0 ≡ w.d = cc in
        let lt' : place < w.d.place = rw at at o.2 in
        let first : is_later place (local_removal repos past r j w.d) ≡ true = grind (arith, nat_tests) in
        rw (removal_is repos e past r j key w.d is kind w.decided_is w.key_is) (or_left _ (list_any (is_later place) (removals repos past key)) first)
    gone (Peer a slot) is kind =
        let w = law.obeys r a slot key is kind in
        let first : is_later place (remote_removal repos past r a w.j w.need w.s) ≡ true = grind (arith, nat_tests) in
        rw (order_is repos e past r a slot w.j w.deadline w.need key w.s is kind w.sent_is w.from_a w.kind_is) (or_left _ (list_any (is_later place) (removals repos past key)) first)

    copy : (present past r key ≡ true) ⊎ (list_any (is_later place) (removals repos past key) ≡ true) → (present (e ∷ past) r key ≡ true) ⊎ (list_any (is_later place) (removals repos (e ∷ past) key) ≡ true)
    copy (inl s) = elim (present_stays e past r key s) [ inl k ↦ inl k | inr t ↦ inr (gone t.by t.repo_is t.kind_is) ]
    copy (inr s) = inr (any_add (is_later place) (removal repos past key e) (removals repos past key) s)

-- ---- vouches

vouched_no_gone : (r a j : ℕ) (kind : EntryKind) (v : Vouch) → VouchedBy r a j kind v → (by : By) (k : List ℕ) → kind ≡ Gone by k → ⊥
vouched_no_gone r a j kind (Lock hold since owner key) w by k g = let h : kind ≡ Share hold w.0 owner key = w.1.0 in cc
vouched_no_gone r a j kind (Look key) w by k g = let h : kind ≡ Check w.0 key = w.1 in cc

vouched_no_bar : (r a j : ℕ) (kind : EntryKind) (v : Vouch) → VouchedBy r a j kind v → (i : ℕ) (need : Need) (k : List ℕ) → kind ≡ Bar i need k → ⊥
vouched_no_bar r a j kind (Lock hold since owner key) w i need k g = let h : kind ≡ Share hold w.0 owner key = w.1.0 in cc
vouched_no_bar r a j kind (Look key) w i need k g = let h : kind ≡ Check w.0 key = w.1 in cc

-- a copy without a bar, which the entry leaves alone, is later than each place so far
free_later : (repos : List RepoView) (past : List Entry) (e : Entry) (r place : ℕ) (key : List ℕ) → HasFreeContent past r key
    → (TakesAway e r key → ⊥) → ((j : ℕ) → PutsBar e r key j → ⊥) → LaterOnly repos (e ∷ past) r place key
free_later repos past e r place key row no_gone no_bar = record { later = later; copy = copy }
  where
    later : (i : ℕ) → bar (e ∷ past) r key ≡ Some i → (d : Decision) × (decision (e ∷ past) r i ≡ Some d) × (place < d.place)
    later i h = elim (bar_was e past r key i h) [ inl s ↦ let none : bar past r key ≡ None = row.free in cc | inr t ↦ absurd (no_bar i t) ]

    copy : (present (e ∷ past) r key ≡ true) ⊎ (list_any (is_later place) (removals repos (e ∷ past) key) ≡ true)
    copy = elim (present_stays e past r key row.there) [ inl s ↦ inl s | inr t ↦ absurd (no_gone t) ]

vouched_kept : (repos : List RepoView) (past : List Entry) (e : Entry) → Facts repos past → IsLawfulEntry repos past e
    → (r a j : ℕ) (v : Vouch) (d : Decision) → Member v (vouches (e ∷ past) r a j) → decision (e ∷ past) a j ≡ Some d → LaterOnly repos (e ∷ past) r d.place (key_of v)
vouched_kept repos past e f law r a j v d m h = elim (Member-append_cases (vouch past e r a j) (vouches past r a j) v m) [
  | inl k ↦ let w = vouch_was past e r a j v k in
      free_later repos past e r d.place (key_of v) (law.copies r a j v k).0
      (λ t. vouched_no_gone r a j e.kind v w.1 t.by (key_of v) t.kind_is) (λ i t. vouched_no_bar r a j e.kind v w.1 i t.need (key_of v) t.kind_is)
  | inr k ↦ elim (decided_was e past a j d h) [
    | inl s ↦ later_still repos past e law r d.place (key_of v) (f.placed a j d s) (f.vouched r a j v d k s)
    | inr t ↦ let none : vouches past r a j ≡ [] = (law.bars a j d.need d.key t.repo_is t.kind_is).fresh r in absurd (subst (λ vs. Member v vs) none k)
  ]
]

end_done : (past : List Entry) (e : Entry) (a j : ℕ) (outcome : Outcome) → is_of a e ≡ true → e.kind ≡ End j outcome → is_lost_ordered outcome ≡ false → is_done (e ∷ past) a j ≡ true
end_done past e a j outcome is kind lost = rw (is, kind, eqb_refl j, lost) refl

new_lasts : (past : List Entry) (e : Entry) (r hold end until : ℕ) (owner : By) (key : List ℕ) → is_of r e ≡ true → e.kind ≡ Share hold end owner key → until ≤ end
    → lasts (holds (e ∷ past) r) hold until owner key ≡ true
new_lasts past e r hold end until owner key is kind le = rw (is, kind, eqb_refl hold, same_owner_refl owner, bytes_eq-refl key, le') refl
  where
    le' : nat_le until end ≡ true
    le' = grind (arith, nat_tests)

lasting_kept : (repos : List RepoView) (past : List Entry) (e : Entry) → Facts repos past → IsLawfulEntry repos past e
    → (r a j : ℕ) (v : Vouch) → Member v (vouches (e ∷ past) r a j) → Lasts repos (e ∷ past) r v ⊎ (is_done (e ∷ past) a j ≡ true)
lasting_kept repos past e f law r a j (Look key) m = inl tt
lasting_kept repos past e f law r a j (Lock hold since owner key) m = elim (Member-append_cases (vouch past e r a j) (vouches past r a j) v m) [ inl k ↦ inl (fresh k) | inr k ↦ old k (f.lasting r a j v k) ]
  where
    v : Vouch
    v = Lock hold since owner key

    fresh : Member (Lock hold since owner key) (vouch past e r a j) → lasts (holds (e ∷ past) r) hold (clock repos (e ∷ past) r (since + hold_time)) owner key ≡ true
    fresh k =
        let w = vouch_was past e r a j (Lock hold since owner key) k in
        let s = law.shares r hold w.1.0 owner key w.0 w.1.1.0 in
        let early : since ≤ e.time = (law.copies r a j (Lock hold since owner key) k).1 in
        subst (λ (c : ClockSet). lasts (holds (e ∷ past) r) hold (runs_on c (since + hold_time)) owner key ≡ true) (sym (share_sets w.1.0 w.1.1.0))
        (new_lasts past e r hold w.1.0 (clock repos past r (since + hold_time)) owner key w.0 w.1.1.0 (omega (arith, s.1, early)))
      where
        share_sets : (end : ℕ) → e.kind ≡ Share hold end owner key → clock_set repos (e ∷ past) r ≡ clock_set repos past r
        share_sets end kind = elim (crash_or repos e past r) [
          | inl t ↦ absurd (let both : Share hold end owner key ≡ Crash t.clock = sym kind ∙ t.kind_is in cc)
          | inr t ↦ t.1
        ]

    old : Member (Lock hold since owner key) (vouches past r a j) → Lasts repos past r (Lock hold since owner key) ⊎ (is_done past a j ≡ true)
        → (lasts (holds (e ∷ past) r) hold (clock repos (e ∷ past) r (since + hold_time)) owner key ≡ true) ⊎ (is_done (e ∷ past) a j ≡ true)
    old k (inr d) = inr (or_right (is_of a e && done_kind j e.kind) (is_done past a j) d)
    old k (inl l) = elim (crash_or repos e past r) [ inl t ↦ inl (crashed t) | inr t ↦ same_clock t.1 (goes_on t.0) ]
      where
        -- it was asked for before the crash, and so ends, by the new clock, no later than ten minutes from it
        crashed : Crashes e r → lasts (holds (e ∷ past) r) hold (clock repos (e ∷ past) r (since + hold_time)) owner key ≡ true
        crashed t =
            let early : since ≤ now past = f.asked_by_now r a j (Lock hold since owner key) k in
            let le : (since + hold_time - e.time) + t.clock ≤ t.clock + hold_time = omega (arith, early, law.time) in
            subst (λ (c : ClockSet). lasts (holds (e ∷ past) r) hold (runs_on c (since + hold_time)) owner key ≡ true) (sym (crash_sets repos e past r t))
            (lasts_crash e past r hold (clock repos past r (since + hold_time)) ((since + hold_time - e.time) + t.clock) owner key t le l)

        same_clock : clock_set repos (e ∷ past) r ≡ clock_set repos past r → (lasts (holds (e ∷ past) r) hold (clock repos past r (since + hold_time)) owner key ≡ true) ⊎ (is_done (e ∷ past) a j ≡ true)
            → (lasts (holds (e ∷ past) r) hold (clock repos (e ∷ past) r (since + hold_time)) owner key ≡ true) ⊎ (is_done (e ∷ past) a j ≡ true)
        same_clock same (inl s) = inl (subst (λ (c : ClockSet). lasts (holds (e ∷ past) r) hold (runs_on c (since + hold_time)) owner key ≡ true) (sym same) s)
        same_clock same (inr d) = inr d

        goes_on : (Crashes e r → ⊥) → (lasts (holds (e ∷ past) r) hold (clock repos past r (since + hold_time)) owner key ≡ true) ⊎ (is_done (e ∷ past) a j ≡ true)
        goes_on stands = elim (lasts_stays e past r hold (clock repos past r (since + hold_time)) owner key l stands) [
          | inl s ↦ inl s
          | inr s ↦ elim s [
            | inl t ↦ inr (or_right (is_of a e && done_kind j e.kind) (is_done past a j) (law.releases r hold t.key t.repo_is t.kind_is a j since owner key k))
            | inr t ↦ let o = own_lock past r a j hold since t.job owner key k t.owner_is in
                inr (end_done past e a j t.outcome (subst (λ x. is_of x e ≡ true) o.0 t.repo_is) (subst (λ x. e.kind ≡ End x t.outcome) o.1 t.kind_is) t.kept_not)
          ]
        ]

-- ---- a hold that was vouched keeps the copy, and lets no bar come

-- while a vouched lock lasts, its hold blocks
lock_blocks : (repos : List RepoView) (past : List Entry) (t : ℕ) → Facts repos past → now past ≤ t → (c a j hold since : ℕ) (owner : By) (key : List ℕ)
    → Member (Lock hold since owner key) (vouches past c a j) → is_done past a j ≡ false → t < since + hold_time → is_blocked (holds past c) key (clock repos past c t) ≡ true
lock_blocks repos past t f le c a j hold since owner key m open' lt = go (f.lasting c a j (Lock hold since owner key) m)
  where
    go : Lasts repos past c (Lock hold since owner key) ⊎ (is_done past a j ≡ true) → is_blocked (holds past c) key (clock repos past c t) ≡ true
    go (inr d) = absurd (true≢false (sym d ∙ open'))
    go (inl l) = lasts-blocks (holds past c) hold (clock repos past c (since + hold_time)) owner key (clock repos past c t) (omega (arith, le, lt, f.clocks c)) l

pub lock_there : (repos : List RepoView) (past : List Entry) (e : Entry) → Facts repos past → IsLawfulEntry repos past e → (c a j hold since : ℕ) (owner : By) (key : List ℕ)
    → Member (Lock hold since owner key) (vouches past c a j) → is_done past a j ≡ false → e.time < since + hold_time → HasFreeContent past c key
lock_there repos past e f law c a j hold since owner key m open' lt =
    record { there = f.guarded c a j hold since owner key m open' (omega (arith, law.time)); free = free (bar past c key) refl }
  where
    blocked : is_blocked (holds past c) key (clock repos past c e.time) ≡ true
    blocked = lock_blocks repos past e.time f law.time c a j hold since owner key m open' lt

    free : (o : Option ℕ) → bar past c key ≡ o → o ≡ None
    free None h = refl
    free (Some i) h = absurd (true≢false (sym blocked ∙ f.bar_free c i e.time key law.time h))

-- ---- removals

removal_still : (repos : List RepoView) (past : List Entry) (e : Entry) → IsLawfulEntry repos past e → (key : List ℕ) (x : Removal) → RemovalOk repos past key x → RemovalOk repos (e ∷ past) key x
removal_still repos past e law key x old = record {
  before = omega (arith, old.before);
  items = Each-weaker (ItemOk repos past key x.side x.decision) (ItemOk repos (e ∷ past) key x.side x.decision) (λ i h c t. later_still repos past e law i.repo x.decision key old.before (h c t)) x.items old.items;
  counted = old.counted;
}

same_decision : (past : List Entry) (r j : ℕ) (d d' : Decision) → decision past r j ≡ Some d → decision past r j ≡ Some d' → d ≡ d'
same_decision past r j d d' h k = let e : Some d ≡ Some d' = sym h ∙ k in cc

-- what the entry found, with the removal's own decision
pub record LocalDrop (repos : List RepoView) (past : List Entry) (r j time : ℕ) (key : List ℕ) (d : Decision) : Type 0 where
  pub barred : bar past r key ≡ Some j
  pub key_is : d.key ≡ key
  pub enough : is_enough Local d.need (evidence Local repos past r j r d.need) ≡ true
  pub in_time : AreInTime past r j time key (evidence Local repos past r j r d.need)
  pub open' : is_done past r j ≡ false

pub local_drop : (repos : List RepoView) (past : List Entry) (e : Entry) → IsLawfulEntry repos past e → (r j : ℕ) (key : List ℕ) (d : Decision) → is_of r e ≡ true → e.kind ≡ Gone (by_job j) key
    → decision past r j ≡ Some d → LocalDrop repos past r j e.time key d
local_drop repos past e law r j key d is kind at =
    let w = law.removes r j key is kind in
    subst (λ (x : Decision). LocalDrop repos past r j e.time key x) (same_decision past r j w.d d w.decided_is at)
    (record { barred = w.barred; key_is = w.key_is; enough = w.enough; in_time = w.in_time; open' = w.open' })

-- the items of a local drop
local_item : (repos : List RepoView) (past : List Entry) (e : Entry) → Facts repos past → IsLawfulEntry repos past e → (r j : ℕ) (key : List ℕ) (d : Decision) → decision past r j ≡ Some d → LocalDrop repos past r j e.time key d
    → (c : ℕ) (kind : Kind) → offer_from repos past r j c ≡ Gives kind → ItemOk repos (e ∷ past) key Local d.place (record { repo = c; kind = kind })
local_item repos past e f law r j key d at w c Trusted g y t = cc
local_item repos past e f law r j key d at w c (Locked end) g y t =
    let o = offer_locked (clock repos past r) (standing repos past r j c) (reply past r j c) end g in
    let v : Vouch = Lock o.0 o.1 o.2.0 o.2.1.0 in
    let is : reply past r j c ≡ Some v = o.2.1.1 in
    later_still repos past e law c d.place key (f.placed r j d at)
    (subst (λ k. LaterOnly repos past c d.place k) (w.in_time.keys c v is) (f.vouched c r j v d (reply_vouched past r j c v is) at))
local_item repos past e f law r j key d at w c Recent g y t =
    let o = offer_recent (clock repos past r) (standing repos past r j c) (reply past r j c) g in
    later_still repos past e law c d.place key (f.placed r j d at)
    (subst (λ k. LaterOnly repos past c d.place k) (w.in_time.keys c (Look o.0) o.1) (f.vouched c r j (Look o.0) d (reply_vouched past r j c (Look o.0) o.1) at))

local_ok : (repos : List RepoView) (past : List Entry) (e : Entry) → Facts repos past → IsLawfulEntry repos past e → (r j : ℕ) (key : List ℕ) (d : Decision) → decision past r j ≡ Some d → LocalDrop repos past r j e.time key d
    → RemovalOk repos (e ∷ past) key (local_removal repos past r j d)
local_ok repos past e f law r j key d at w = record {
  before = omega (arith, f.placed r j d at);
  items = evidence_each (ItemOk repos (e ∷ past) key Local d.place) (λ c. Unit {0}) Local repos past r j r d.need
      (λ c kind u g. local_item repos past e f law r j key d at w c kind g) (Each-any (candidates Local (length repos) r r));
  counted = λ q all. omega (
    arith,
    enough_m Local d.need (evidence Local repos past r j r d.need) w.enough,
    evidence_count q Local repos past r j r d.need tt all,
  );
}

-- a copy that a remote drop locked, as its order is obeyed
pub remote_lock : (repos : List RepoView) (past : List Entry) (e : Entry) → Facts repos past → IsLawfulEntry repos past e → (r a : ℕ) (key : List ℕ) → (w : FoundRemote repos past e r a key)
    → (c end : ℕ) → offer_from repos w.s.before a w.j c ≡ Gives (Locked end) → IsFresh w.s.before a w.j e.time (record { repo = c; kind = Locked end }) → HasFreeContent past c key
remote_lock repos past e f law r a key w c end g lt =
    let o = offer_locked (clock repos w.s.before a) (standing repos w.s.before a w.j c) (reply w.s.before a w.j c) end g in
    let v : Vouch = Lock o.0 o.1 o.2.0 o.2.1.0 in
    let is : reply w.s.before a w.j c ≡ Some v = o.2.1.1 in
    let m = sender_before past r e.taken w.s c a w.j v w.sent_is (reply_vouched w.s.before a w.j c v is) in
    subst (λ k. HasFreeContent past c k) (w.in_time.keys c v is) (lock_there repos past e f law c a w.j o.0 o.1 o.2.0 o.2.1.0 m w.open' (lt end o.0 o.1 o.2.0 o.2.1.0 refl is))

remote_item : (repos : List RepoView) (past : List Entry) (e : Entry) → Facts repos past → IsLawfulEntry repos past e → (r a slot : ℕ) (key : List ℕ) → is_of r e ≡ true → e.kind ≡ Gone (Peer a slot) key
    → (w : FoundRemote repos past e r a key) → (c : ℕ) (kind : Kind) → not (c == r) ≡ true → offer_from repos w.s.before a w.j c ≡ Gives kind
    → IsFresh w.s.before a w.j e.time (record { repo = c; kind = kind }) → ItemOk repos (e ∷ past) key Remote (length past) (record { repo = c; kind = kind })
remote_item repos past e f law r a slot key is kind w c Trusted other g lt y t = cc
remote_item repos past e f law r a slot key is kind w c Recent other g lt y t = cc
remote_item repos past e f law r a slot key is kind w c (Locked end) other g lt y t =
    free_later repos past e c (length past) key (remote_lock repos past e f law r a key w c end g lt)
    (λ k. not_there k) (λ i k. gone_no_bar (Peer a slot) key i k.need key e.kind kind k.kind_is)
  where
    gone_no_bar : (by : By) (k : List ℕ) (i : ℕ) (need : Need) (l : List ℕ) (kind' : EntryKind) → kind' ≡ Gone by k → kind' ≡ Bar i need l → ⊥
    gone_no_bar by k i need l kind' g h = cc

    not_there : TakesAway e c key → ⊥
    not_there k = let same : c ≡ r = same_repo e c r k.repo_is is in absurd (true≢false (sym (subst (λ x. not (x == r) ≡ true) same other) ∙ ap not (eqb_refl r)))

remote_ok : (repos : List RepoView) (past : List Entry) (e : Entry) → Facts repos past → IsLawfulEntry repos past e → (r a slot : ℕ) (key : List ℕ) → is_of r e ≡ true → e.kind ≡ Gone (Peer a slot) key
    → (w : FoundRemote repos past e r a key) → RemovalOk repos (e ∷ past) key (remote_removal repos past r a w.j w.need w.s)
remote_ok repos past e f law r a slot key is kind w = record {
  before = omega arith;
  items = Each-both _ _ (ItemOk repos (e ∷ past) key Remote (length past)) (λ i h k. h k) (evidence Remote repos w.s.before a w.j r w.need)
      (evidence_each (λ i. IsFresh w.s.before a w.j e.time i → ItemOk repos (e ∷ past) key Remote (length past) i) (λ c. not (c == r) ≡ true) Remote repos w.s.before a w.j r w.need
      (λ c kind' other g. remote_item repos past e f law r a slot key is kind w c kind' other g) (never_target Remote (length repos) a r w.other))
      w.in_time.ends;
  counted = λ q all. omega (
    arith,
    enough_m Remote w.need (evidence Remote repos w.s.before a w.j r w.need) w.enough,
    evidence_count q Remote repos w.s.before a w.j r w.need w.in_range all,
  );
}

-- the removal that the entry is, by what the entry found
pub obeyed : (repos : List RepoView) (past : List Entry) (e : Entry) → IsLawfulEntry repos past e → (key : List ℕ) (x : Removal) → (t : Obeys repos e past key x)
    → (w : FoundRemote repos past e t.r t.a key) × (x ≡ remote_removal repos past t.r t.a w.j w.need w.s)
obeyed repos past e law key x t =
    let w = law.obeys t.r t.a t.slot key t.repo_is t.kind_is in
    let a : removal repos past key e ≡ Some (remote_removal repos past t.r t.a w.j w.need w.s) = order_is repos e past t.r t.a t.slot w.j w.deadline w.need key w.s t.repo_is t.kind_is w.sent_is w.from_a w.kind_is in
    let b : removal repos past key e ≡ Some (remote_removal repos past t.r t.a t.j t.need t.s) = order_is repos e past t.r t.a t.slot t.j t.deadline t.need key t.s t.repo_is t.kind_is t.sent_is t.from_a t.order_is in
    let c : Some (remote_removal repos past t.r t.a t.j t.need t.s) ≡ Some (remote_removal repos past t.r t.a w.j w.need w.s) = sym b ∙ a in
    (w, t.is ∙ same_Some _ _ c)

removed_kept : (repos : List RepoView) (past : List Entry) (e : Entry) → Facts repos past → IsLawfulEntry repos past e → (key : List ℕ) → Each (RemovalOk repos (e ∷ past) key) (removals repos (e ∷ past) key)
removed_kept repos past e f law key = go (removal repos past key e) refl
  where
    old : Each (RemovalOk repos (e ∷ past) key) (removals repos past key)
    old = Each-weaker (RemovalOk repos past key) (RemovalOk repos (e ∷ past) key) (λ x h. removal_still repos past e law key x h) (removals repos past key) (f.removed key)

    one : (x : Removal) → Removes repos e past key x ⊎ Obeys repos e past key x → RemovalOk repos (e ∷ past) key x
    one x (inl t) = subst (λ y. RemovalOk repos (e ∷ past) key y) (sym t.is)
        (local_ok repos past e f law t.r t.j key t.d t.decided_is (local_drop repos past e law t.r t.j key t.d t.repo_is t.kind_is t.decided_is))
    one x (inr t) = let w = obeyed repos past e law key x t in
        subst (λ y. RemovalOk repos (e ∷ past) key y) (sym w.1) (remote_ok repos past e f law t.r t.a t.slot key t.repo_is t.kind_is w.0)

    go : (o : Option Removal) → removal repos past key e ≡ o → Each (RemovalOk repos (e ∷ past) key) (add_removal o (removals repos past key))
    go None h = old
    go (Some x) h = (one x (removal_was repos e past key x h), old)

-- ---- all together

bar_gone : (e : Entry) (past : List Entry) (r : ℕ) (by : By) (key : List ℕ) → is_of r e ≡ true → e.kind ≡ Gone by key → bar (e ∷ past) r key ≡ None
bar_gone e past r by key is kind = rw (is, kind, bytes_eq-refl key) refl

bar_gone_not : (past : List Entry) (e : Entry) (r j : ℕ) (key : List ℕ) → bar (e ∷ past) r key ≡ Some j → TakesAway e r key → ⊥
bar_gone_not past e r j key h t = let k : bar (e ∷ past) r key ≡ None = bar_gone e past r t.by key t.repo_is t.kind_is in cc

share_no_bar : (e : Entry) (r j : ℕ) (key : List ℕ) → Shares e r key → PutsBar e r key j → ⊥
share_no_bar e r j key s t = let g : e.kind ≡ Bar j t.need key = t.kind_is in let h : e.kind ≡ Share s.hold s.end s.owner key = s.kind_is in cc

-- an entry that takes the key away found no hold that blocks
unheld_gone : (repos : List RepoView) (past : List Entry) (e : Entry) → Facts repos past → IsLawfulEntry repos past e → (r t : ℕ) (by : By) (key : List ℕ) → e.time ≤ t → is_of r e ≡ true → e.kind ≡ Gone by key
    → is_blocked (holds past r) key (clock repos past r t) ≡ false
unheld_gone repos past e f law r t Script key le is kind = absurd (law.drops key kind)
unheld_gone repos past e f law r t (by_job j) key le is kind = f.bar_free r j t key (omega (arith, law.time)) (law.removes r j key is kind).barred
unheld_gone repos past e f law r t (Peer a slot) key le is kind = unblocked_later (holds past r) key (clock repos past r e.time) (clock repos past r t) (omega arith) (law.obeys r a slot key is kind).unheld

bar_crashed : (e : Entry) (past : List Entry) (r : ℕ) (key : List ℕ) → Crashes e r → bar (e ∷ past) r key ≡ None
bar_crashed e past r key t = rw (t.repo_is, t.kind_is) refl

pub facts_kept : (repos : List RepoView) (past : List Entry) (e : Entry) → Facts repos past → IsLawfulEntry repos past e → Facts repos (e ∷ past)
facts_kept repos past e f law = record {
  clocks = λ r. set_by_now repos e past r (f.clocks r) law.time;
  asked_by_now = λ r a j v m. elim (Member-append_cases (vouch past e r a j) (vouches past r a j) v m) [
    | inl k ↦ (law.copies r a j v k).1
    | inr k ↦ omega (arith, f.asked_by_now r a j v k, law.time)
  ];
  bar_there = λ r j key h. elim (present_stays e past r key (there r j key h)) [ inl s ↦ s | inr t ↦ absurd (bar_gone_not past e r j key h t) ];
  bar_free = λ r j t key le h. elim (crash_or repos e past r) [
    | inl k ↦ absurd (let none : bar (e ∷ past) r key ≡ None = bar_crashed e past r key k in let both : Some j ≡ None = sym h ∙ none in cc)
    | inr k ↦ subst (λ (c : ClockSet). is_blocked (holds (e ∷ past) r) key (runs_on c t) ≡ false) (sym k.1)
        (elim (cases_Bool (is_blocked (holds (e ∷ past) r) key (clock repos past r t))) [ inl s ↦ absurd (free r j t key le h k.0 s) | inr s ↦ s ])
  ];
  guarded = λ r a j hold since owner key m o lt. guarded r a j hold since owner key o lt (Member-append_cases (vouch past e r a j) (vouches past r a j) (Lock hold since owner key) m);
  placed = λ a j d h. elim (decided_was e past a j d h) [ inl s ↦ omega (arith, f.placed a j d s) | inr t ↦ omega (arith, t.place_is) ];
  vouched = λ r a j v d m h. vouched_kept repos past e f law r a j v d m h;
  lasting = λ r a j v m. lasting_kept repos past e f law r a j v m;
  removed = removed_kept repos past e f law;
}
  where
    there : (r j : ℕ) (key : List ℕ) → bar (e ∷ past) r key ≡ Some j → present past r key ≡ true
    there r j key h = elim (bar_was e past r key j h) [ inl s ↦ f.bar_there r j key s | inr t ↦ (law.bars r j t.need key t.repo_is t.kind_is).row.there ]

    free : (r j t : ℕ) (key : List ℕ) → e.time ≤ t → bar (e ∷ past) r key ≡ Some j → (Crashes e r → ⊥) → is_blocked (holds (e ∷ past) r) key (clock repos past r t) ≡ true → ⊥
    free r j t key le h stands s = elim (blocked_was e past r key (clock repos past r t) s) [
      | inl k ↦ elim (bar_was e past r key j h) [
        | inl b ↦ absurd (true≢false (sym k ∙ f.bar_free r j t key (omega (arith, law.time)) b))
        | inr p ↦ absurd (true≢false (sym k ∙ unblocked_later (holds past r) key (clock repos past r e.time) (clock repos past r t) (omega arith) (law.bars r j p.need key p.repo_is p.kind_is).unheld))
      ]
      | inr (inr k) ↦ stands k
      | inr (inl k) ↦ elim (bar_was e past r key j h) [
        | inl b ↦ let none : bar past r key ≡ None = (law.shares r k.hold k.end k.owner key k.repo_is k.kind_is).0.free in cc
        | inr p ↦ absurd (share_no_bar e r j key k p)
      ]
    ]

    guarded : (r a j hold since : ℕ) (owner : By) (key : List ℕ) → is_done (e ∷ past) a j ≡ false → e.time < since + hold_time
        → Member (Lock hold since owner key) (vouch past e r a j) ⊎ Member (Lock hold since owner key) (vouches past r a j) → present (e ∷ past) r key ≡ true
    guarded r a j hold since owner key o lt (inl k) = elim (present_stays e past r key (law.copies r a j (Lock hold since owner key) k).0.there) [
      | inl s ↦ s
      | inr g ↦ absurd (vouched_no_gone r a j e.kind (Lock hold since owner key) (vouch_was past e r a j (Lock hold since owner key) k).1 g.by key g.kind_is)
    ]
    guarded r a j hold since owner key o lt (inr k) =
        let open' : is_done past a j ≡ false = (or_parts (is_of a e && done_kind j e.kind) (is_done past a j) o).1 in
        elim (present_stays e past r key (f.guarded r a j hold since owner key k open' (omega (arith, law.time)))) [
          | inl s ↦ s
          | inr g ↦ absurd (true≢false (sym (lock_blocks repos past e.time f law.time r a j hold since owner key k open' lt) ∙ unheld_gone repos past e f law r e.time g.by key (omega arith) g.repo_is g.kind_is))
        ]

pub facts_start : (repos : List RepoView) → Facts repos []
facts_start repos = record {
  clocks = λ r. omega arith;
  asked_by_now = λ r a j v m. absurd m;
  bar_there = λ r j key h. cc;
  bar_free = λ r j t key le h. refl;
  guarded = λ r a j hold since owner key m o lt. absurd m;
  placed = λ a j d h. absurd (cc);
  vouched = λ r a j v d m h. absurd m;
  lasting = λ r a j v m. absurd m;
  removed = λ key. tt;
}
