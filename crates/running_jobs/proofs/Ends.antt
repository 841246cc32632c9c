-- The end of all jobs.
use Rattle.std.proofs.Common.{◌≡◌, ◌≢◌, ℕ, ◌≤◌, Bool, true, false, if◌then◌else◌, List, [], ◌∷◌, ◌++◌, refl, sym, ap, subst, ◌∙◌, arith, true≢false}
use Rattle.std.specs.Prelude.{◌&&◌, not}
use Rattle.std.proofs.lemmas.List.{append-nil}
use Rattle.annex_base.specs.Lists.{Member}
use Rattle.annex_base.proofs.Lists.{Each-both, Each-left, Each-member, Each-right, Each-weaker}
use Rattle.content_lock.specs.Rows.{Rows, bar_at, is_filling}
use Rattle.drop_phases.specs.declared.phase.Token.TheVariants as tokens
use Rattle.drop_phases.specs.Doing.{OthersStay}
use Rattle.transfer_turns.specs.Steps.{fills_key}
use Rattle.node_tasks.specs.declared.task.Task.{Task}
use Rattle.node_tasks.specs.Tasks.{OwnsOf, number_of, work_now}
use Rattle.running_jobs.specs.Changes.{Settles}
use Rattle.running_jobs.specs.Ending.{CanEnd, OthersKeep}
use Rattle.running_jobs.specs.Running.{AllApart, AreApart, AreFilled, IsOwn, Jobs, OwnAll, fills_at}
use Rattle.running_jobs.proofs.Among.{apart_before, apart_without}
use Rattle.running_jobs.proofs.Filling.{ended_one, fills_append, none_filled, one_apart, owns_on, right_there, turned}

-- ---- a job is settled after its step

pub settles_off : (ended : Bool) (t : Task) (rows rows' : Rows) → ended ≡ true → rows'.holds ≡ rows.holds → ((key : List ℕ) → bar_at rows' key ≡ bar_at rows key) → OthersStay (number_of t) rows rows'
    → ((key : List ℕ) → is_filling rows' key ≡ (not (fills_key (work_now t) key) && is_filling rows key)) → Settles ended t rows rows'
settles_off ended t rows rows' is holds bars others fills = record {
  stays = λ e. absurd (true≢false (sym is ∙ e));
  holds = holds;
  bars = bars;
  others = others;
  filled = λ key. fills key ∙ sym (ap (λ (b : Bool). if b then (not (fills_key (work_now t) key) && is_filling rows key) else is_filling rows key) is);
}

-- ---- one after the other

-- the jobs of a repository can end
pub can_end : (jobs : Jobs) (rows : Rows) → OwnAll jobs rows → CanEnd rows jobs.running
can_end jobs rows own =
    record {
      owns = Each-weaker (IsOwn jobs.begun rows) (OwnsOf rows) (λ t o. o.owns) jobs.running own.owns;
      apart = own.apart;
    }

pub last_owns : (rows : Rows) (front : List Task) (x : Task) → CanEnd rows (front ++ x ∷ []) → OwnsOf rows x
last_owns rows front x can = (Each-right (OwnsOf rows) front (x ∷ []) can.owns).0

module _ (rows rows' : Rows) (front : List Task) (x : Task) (can : CanEnd rows (front ++ x ∷ [])) (others : OthersStay (number_of x) rows rows') (fills : (key : List ℕ) → is_filling rows' key ≡ (not (fills_key (work_now x) key) && is_filling rows key)) where
  still : (t : Task) → OwnsOf rows t → AreApart t x → OwnsOf rows' t
  still t owns h = owns_on rows rows' t owns (λ key token has. others (number_of t) key token h.number has) (λ key e. fills key ∙ both (fills_key (work_now x) key) (is_filling rows key)
      (one_apart (fills_key (work_now x) key) (fills_key (work_now t) key) (turned (fills_key (work_now t) key) (fills_key (work_now x) key) (h.fills key)) e) (right_there rows t key owns e))
    where
      both : (f r : Bool) → f ≡ false → r ≡ true → (not f && r) ≡ true
      both f r other there = (λ i. not (other i) && there i)

  pub rest_can : CanEnd rows' front
  rest_can =
      record {
        owns = Each-both (OwnsOf rows) (λ t. AreApart t x) (OwnsOf rows') still front (Each-left (OwnsOf rows) front (x ∷ []) can.owns) (apart_before front x [] can.apart);
        apart = subst AllApart (append-nil front) (apart_without front x [] can.apart);
      }

  -- the keys that are filled, but for those of the jobs that are left
  pub rest_filled : (key : List ℕ) → (not (fills_at front key) && is_filling rows' key) ≡ (not (fills_at (front ++ x ∷ []) key) && is_filling rows key)
  rest_filled key =
      ended_one (fills_at front key) (fills_key (work_now x) key) (is_filling rows key) (is_filling rows' key) (fills key)
      ∙ ap (λ (b : Bool). not b && is_filling rows key) (sym (fills_append front (x ∷ []) key))

pub others_keep : (all : List Task) (rows0 rows rows' : Rows) (x : Task) → Member x all → OthersKeep all rows0 rows → OthersStay (number_of x) rows rows' → OthersKeep all rows0 rows'
others_keep all rows0 rows rows' x among keep others = λ job key token apart mine. others job key token (Each-member (λ t. job ≢ number_of t) all x apart among) (keep job key token apart mine)

-- ---- what is left after all have ended

pub owns_none : (jobs : Jobs) (rows rows' : Rows) → OwnAll jobs rows → OthersKeep jobs.running rows rows' → OwnAll (record jobs { running = [] }) rows'
owns_none jobs rows rows' own keep =
    record {
      tasks = tt;
      owns = tt;
      apart = tt;
      later = λ job key beyond. keep job key tokens.Nothing
          (Each-weaker (IsOwn jobs.begun rows) (λ t. job ≢ number_of t) (λ t o e. let at : number_of t ≤ jobs.begun = o.number in absurd (omega (arith, at, beyond, e))) jobs.running own.owns) (own.later job key beyond);
    }

pub fills_none : (rows rows' : Rows) (ts : List Task) → ((key : List ℕ) → is_filling rows' key ≡ (not (fills_at ts key) && is_filling rows key)) → (others : List ℕ → Bool) → AreFilled rows ts others → AreFilled rows' [] others
fills_none rows rows' ts fills others are = record {
  filled = λ key. (none_filled (fills_at ts key) (others key) (is_filling rows key) (is_filling rows' key) (are.filled key) (are.apart key) (fills key)).0;
  apart = λ key. refl;
}
