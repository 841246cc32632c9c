-- What the drops of a run's removals read of the logs, at the places of the run.
use Rattle.std.proofs.Common.{◌≡◌, ℕ, true, List, length, Option, Some, None, inl, inr, refl, sym, ap, ◌∙◌, subst}
use Rattle.std.specs.Prelude.{◌≢◌}
use Rattle.std.proofs.lemmas.Option.{same_Some}
use Rattle.annex_base.specs.declared.kinds.Level.TheVariants as levels
use Rattle.annex_base.specs.Lists.{Each, Member}
use Rattle.annex_base.proofs.Lists.{Each-member}
use Rattle.step_facts.proofs.Below.{SentAreRead}
use Rattle.drop_proof.specs.declared.evidence.Evidence.{Evidence}
use Rattle.drop_proof.specs.declared.evidence.Kind.{Kind}
use Rattle.drop_proof.specs.declared.evidence.Kind.TheVariants.{Locked, Trusted, Recent}
use Rattle.drop_proof.specs.declared.rule.Need.{Need}
use Rattle.drop_proof.specs.declared.rule.Side.{Side}
use Rattle.drop_proof.specs.declared.rule.Side.TheVariants.{Local, Remote}
use Rattle.run_data.specs.declared.entry.Entry.{Entry}
use Rattle.run_data.specs.declared.job.Cause.{Cause}
use Rattle.run_data.specs.declared.run.RepoView.{RepoView}
use Rattle.run_data.specs.declared.run.Run.{Run}
use Rattle.run_model.specs.Past.{clock}
use Rattle.run_model.specs.Logs.{need_read}
use Rattle.node_model.specs.Evidence.{Asked, Claimed, Gives, Ignored, Standing, candidates, is_trusted}
use Rattle.run_model.specs.Drops.{Lock, Look, Vouch, offer_from, evidence, offer, reply, standing}
use Rattle.run_model.specs.Safety.{Removal, past_at}
use Rattle.race_core.proofs.Reading.{standing-claimed, standing-dead, standing-untrusted}
use Rattle.race_core.specs.Places.{removal_at}
use Rattle.race_core.specs.Readings.{IsLocalRemoval, Judge, claim_read, judge_at, key_read, level_read}
use Rattle.past_facts.proofs.Lists.{Each-any}
use Rattle.race_core.proofs.Dropped.{meets_at, messages_at, stated_at}
use Rattle.run_model.specs.Run.{IsRun, job_paths}
use Rattle.past_facts.proofs.Changes.{Obeys, Removes, removal_is, removal_was, repo_of}
use Rattle.past_facts.proofs.Evident.{barred}
use Rattle.past_facts.proofs.ReadOnce.{need_is_read}
use Rattle.past_facts.proofs.Gather.{evidence_each}

-- a local removal has the need that its drop read
pub need_of_removal : SentAreRead → (run : Run) (key : List ℕ) (place r j : ℕ) (x : Removal) → IsRun run → (w : IsLocalRemoval run key place r j) → removal_at run key place w.entry ≡ Some x → x.need ≡ need_read (job_paths run r j) (past_at run place) r j
need_of_removal reads_back run key place r j x h w is =
    let past = messages_at reads_back run place h in
    let m = ((meets_at reads_back run place w.entry h w.entry_is).own r w.repo_is).removes j key w.kind_is in
    let b = barred run.repos (past_at run place) r j key past m.barred in
    let there = removal_is run.repos w.entry (past_at run place) r j key b.d w.repo_is w.kind_is b.decided_is b.key_is in
    ap (λ (y : Removal). y.need) (same_Some _ _ (sym is ∙ there)) ∙ need_is_read run.repos (job_paths run) (past_at run place) r j b.d past (stated_at reads_back run place h) b.decided_is

-- ---- evidence, in any run

pub evidence_asked : (side : Side) (repos : List RepoView) (past : List Entry) (a j target : ℕ) (need : Need) → Each (λ i. offer_from repos past a j i.repo ≡ Gives i.kind) (evidence side repos past a j target need)
evidence_asked side repos past a j target need =
    evidence_each (λ i. offer_from repos past a j i.repo ≡ Gives i.kind) (λ c. Unit {0}) side repos past a j target need (λ c kind u g. g) (Each-any (candidates side (length repos) a target))

-- the removal's drop has a judge, whom each item's repository gave it
record Judged (run : Run) (place : ℕ) (e : Entry) (x : Removal) : Type 0 where
  judge : Judge
  judge_is : judge_at run place e ≡ Some judge
  given : Each (λ i. offer_from run.repos judge.past judge.repo judge.job i.repo ≡ Gives i.kind) x.items

judged : (run : Run) (key : List ℕ) (place : ℕ) (e : Entry) (x : Removal) → removal_at run key place e ≡ Some x → Judged run place e x
judged run key place e x h = elim (removal_was run.repos e (past_at run place) key x h) [ inl t ↦ by_own t | inr t ↦ by_order t ]
  where
    by_own : Removes run.repos e (past_at run place) key x → Judged run place e x
    by_own t = record {
      judge = record { repo = t.r; job = t.j; past = past_at run place };
      judge_is = rw (repo_of e t.r t.repo_is, t.kind_is) refl;
      given = subst (λ (y : Removal). Each (λ i. offer_from run.repos (past_at run place) t.r t.j i.repo ≡ Gives i.kind) y.items) (sym t.is) (evidence_asked Local run.repos (past_at run place) t.r t.j t.r t.d.need);
    }

    by_order : Obeys run.repos e (past_at run place) key x → Judged run place e x
    by_order t = record {
      judge = record { repo = t.a; job = t.j; past = t.s.before };
      judge_is = rw (repo_of e t.r t.repo_is, t.kind_is, t.sent_is, t.order_is) refl;
      given = subst (λ (y : Removal). Each (λ i. offer_from run.repos t.s.before t.a t.j i.repo ≡ Gives i.kind) y.items) (sym t.is) (evidence_asked Remote run.repos t.s.before t.a t.j t.r t.need);
    }

pub judge_there : (run : Run) (key : List ℕ) (place : ℕ) (e : Entry) (x : Removal) → removal_at run key place e ≡ Some x → (judge : Judge) × (judge_at run place e ≡ Some judge)
judge_there run key place e x h = let w = judged run key place e x h in (w.judge, w.judge_is)

given_by_item : (run : Run) (key : List ℕ) (place : ℕ) (e : Entry) (x : Removal) (judge : Judge) (item : Evidence) → removal_at run key place e ≡ Some x → judge_at run place e ≡ Some judge → Member item x.items
    → offer_from run.repos judge.past judge.repo judge.job item.repo ≡ Gives item.kind
given_by_item run key place e x judge item h is m =
    let w = judged run key place e x h in
    let same : w.judge ≡ judge = same_Some _ _ (sym w.judge_is ∙ is) in
    subst (λ (y : Judge). offer_from run.repos y.past y.repo y.job item.repo ≡ Gives item.kind) same (Each-member (λ i. offer_from run.repos w.judge.past w.judge.repo w.judge.job i.repo ≡ Gives i.kind) x.items item w.given m)

ignored_gives : (clock : ℕ → ℕ) (s : Standing) (v : Option Vouch) (kind : Kind) (cause : Cause) → offer clock s v ≡ Gives kind → s ≡ Ignored cause → ⊥
ignored_gives clock s v kind cause g i = let k : offer clock (Ignored cause) v ≡ Gives kind = rw i at g in cc

trusted_gives : (clock : ℕ → ℕ) (s : Standing) (v : Option Vouch) → offer clock s v ≡ Gives Trusted → s ≡ Claimed
trusted_gives clock Claimed v g = refl
trusted_gives clock (Ignored cause) v g = cc
trusted_gives clock Asked None g = cc
trusted_gives clock Asked (Some (Lock hold since owner key)) g = cc
trusted_gives clock Asked (Some (Look key)) g = cc

pub untrusted_never : (run : Run) (key : List ℕ) (place : ℕ) (e : Entry) (x : Removal) (judge : Judge) (item : Evidence) → removal_at run key place e ≡ Some x → judge_at run place e ≡ Some judge → Member item x.items
    → level_read run judge item.repo ≢ levels.Untrusted
untrusted_never run key place e x judge item h is m level =
    ignored_gives (clock run.repos judge.past judge.repo) (standing run.repos judge.past judge.repo judge.job item.repo) (reply judge.past judge.repo judge.job item.repo) item.kind _
    (given_by_item run key place e x judge item h is m) (standing-untrusted run.repos judge.past judge.repo judge.job item.repo level)

pub dead_never : (run : Run) (key : List ℕ) (place : ℕ) (e : Entry) (x : Removal) (judge : Judge) (item : Evidence) → removal_at run key place e ≡ Some x → judge_at run place e ≡ Some judge → Member item x.items
    → level_read run judge item.repo ≢ levels.Dead
dead_never run key place e x judge item h is m level =
    ignored_gives (clock run.repos judge.past judge.repo) (standing run.repos judge.past judge.repo judge.job item.repo) (reply judge.past judge.repo judge.job item.repo) item.kind _
    (given_by_item run key place e x judge item h is m) (standing-dead run.repos judge.past judge.repo judge.job item.repo level)

trusted_kind : (kind : Kind) → is_trusted kind ≡ true → kind ≡ Trusted
trusted_kind (Locked end) h = cc
trusted_kind Trusted h = refl
trusted_kind Recent h = cc

trusted_claimed : (run : Run) (key : List ℕ) (place : ℕ) (e : Entry) (x : Removal) (judge : Judge) (item : Evidence) → removal_at run key place e ≡ Some x → judge_at run place e ≡ Some judge → Member item x.items
    → is_trusted item.kind ≡ true → standing run.repos judge.past judge.repo judge.job item.repo ≡ Claimed
trusted_claimed run key place e x judge item h is m t =
    trusted_gives (clock run.repos judge.past judge.repo) (standing run.repos judge.past judge.repo judge.job item.repo) (reply judge.past judge.repo judge.job item.repo)
    (given_by_item run key place e x judge item h is m ∙ ap (λ kind. Gives kind) (trusted_kind item.kind t))

pub trusted_level : (run : Run) (key : List ℕ) (place : ℕ) (e : Entry) (x : Removal) (judge : Judge) (item : Evidence) → removal_at run key place e ≡ Some x → judge_at run place e ≡ Some judge → Member item x.items
    → is_trusted item.kind ≡ true → level_read run judge item.repo ≡ levels.Trusted
trusted_level run key place e x judge item h is m t = (standing-claimed run.repos judge.past judge.repo judge.job item.repo (trusted_claimed run key place e x judge item h is m t)).0

pub trusted_claim : (run : Run) (key : List ℕ) (place : ℕ) (e : Entry) (x : Removal) (judge : Judge) (item : Evidence) → removal_at run key place e ≡ Some x → judge_at run place e ≡ Some judge → Member item x.items
    → is_trusted item.kind ≡ true → claim_read run judge (key_read judge) item.repo ≡ true
trusted_claim run key place e x judge item h is m t = (standing-claimed run.repos judge.past judge.repo judge.job item.repo (trusted_claimed run key place e x judge item h is m t)).1
