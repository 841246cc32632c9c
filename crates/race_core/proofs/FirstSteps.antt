-- What the judge of a removal read of the logs is what stood before the first step of its drop.
use Rattle.std.proofs.Common.{◌≡◌, ℕ, Bool, true, false, ◌&&◌, List, [], ◌∷◌, Option, Some, None, inl, inr, refl, sym, ap, ◌∙◌, subst}
use Rattle.std.specs.Prelude.{if◌then◌else◌, slice_get}
use Rattle.std.specs.Option.{option_or, unwrap_or}
use Rattle.std.proofs.lemmas.Option.{same_Some}
use Rattle.annex_base.proofs.Conditions.{eqb_refl}
use Rattle.step_facts.proofs.Below.{SentAreRead}
use Rattle.run_data.specs.declared.entry.Entry.{Entry}
use Rattle.run_data.specs.declared.run.Run.{Run}
use Rattle.run_model.specs.Past.{Occurs, is_of}
use Rattle.run_model.specs.Logs.{before_step, in_drop, is_step, read_at}
use Rattle.run_model.specs.Safety.{Removal, past_at}
use Rattle.run_model.specs.Run.{IsRun}
use Rattle.race_core.specs.Places.{removal_at}
use Rattle.race_core.specs.Readings.{IsFirstStep, Judge, judge_at}
use Rattle.past_facts.proofs.Changes.{Obeys, Removes, removal_was, repo_of}
use Rattle.past_facts.proofs.ReadOnce.{step_made}
use Rattle.race_core.proofs.Dropped.{meets_at, messages_at}
use Rattle.past_facts.proofs.EntryPlaces.{occurs_at}
use Rattle.race_core.proofs.OneDrop.{order_obeyed}

-- the first step of the drop, among the entries
record Stepped (past : List Entry) (r j : ℕ) (b : List Entry) : Type 0 where
  entry : Entry
  occurs : Occurs past entry b
  repo_is : is_of r entry ≡ true
  step_is : is_step j entry.kind ≡ true
  dropping : in_drop b r j ≡ true
  none_before : before_step b r j ≡ None

stepped_first : (past : List Entry) (r j : ℕ) (b : List Entry) → before_step past r j ≡ Some b → Stepped past r j b
stepped_first [] r j b h = absurd (cc)
stepped_first (e ∷ past) r j b h = go (λ k. stepped_first past r j b k) (before_step past r j) refl h
  where
    now' : before_step past r j ≡ None → (p q d : Bool) → is_of r e ≡ p → is_step j e.kind ≡ q → in_drop past r j ≡ d → (if p && (q && d) then Some past else None) ≡ Some b → Stepped (e ∷ past) r j b
    now' none true true true is step drops k =
        let same : past ≡ b = same_Some past b k in
        record {
          entry = e;
          occurs = inl (refl, sym same);
          repo_is = is;
          step_is = step;
          dropping = subst (λ q. in_drop q r j ≡ true) same drops;
          none_before = subst (λ q. before_step q r j ≡ None) same none;
        }
    now' none true true false is step drops k = absurd (cc)
    now' none true false d is step drops k = absurd (cc)
    now' none false q d is step drops k = absurd (cc)

    go : (before_step past r j ≡ Some b → Stepped past r j b) → (o : Option (List Entry)) → before_step past r j ≡ o
        → option_or o (if is_of r e && (is_step j e.kind && in_drop past r j) then Some past else None) ≡ Some b → Stepped (e ∷ past) r j b
    go ih None is k = now' is (is_of r e) (is_step j e.kind) (in_drop past r j) refl refl refl k
    go ih (Some q) is k =
        let t = ih (is ∙ k) in
        record { entry = t.entry; occurs = inr t.occurs; repo_is = t.repo_is; step_is = t.step_is; dropping = t.dropping; none_before = t.none_before }

-- what was read at the past of a place, once the drop has made a step
read_first : (run : Run) (place r j : ℕ) (b : List Entry) → before_step (past_at run place) r j ≡ Some b → (first : ℕ) × IsFirstStep run r j first × (read_at (past_at run place) r j ≡ past_at run first)
read_first run place r j b h =
    let t = stepped_first (past_at run place) r j b h in
    let w = occurs_at run place t.entry b t.occurs in (
      w.at,
      record {
        entry = t.entry;
        entry_is = w.entry_is;
        repo_is = t.repo_is;
        step_is = t.step_is;
        dropping = subst (λ q. in_drop q r j ≡ true) w.before_is t.dropping;
        none_before = subst (λ q. before_step q r j ≡ None) w.before_is t.none_before;
      },
      ap (λ o. unwrap_or o (past_at run place)) h ∙ w.before_is,
    )

-- or the entry at the place is its first step
read_now : (run : Run) (place r j : ℕ) (e : Entry) → slice_get run.entries place ≡ Some e → is_of r e ≡ true → is_step j e.kind ≡ true → in_drop (past_at run place) r j ≡ true
    → (first : ℕ) × IsFirstStep run r j first × (read_at (past_at run place) r j ≡ past_at run first)
read_now run place r j e at is step drops = go (before_step (past_at run place) r j) refl
  where
    go : (o : Option (List Entry)) → before_step (past_at run place) r j ≡ o → (first : ℕ) × IsFirstStep run r j first × (read_at (past_at run place) r j ≡ past_at run first)
    go (Some b) h = read_first run place r j b h
    go None h = (place, record { entry = e; entry_is = at; repo_is = is; step_is = step; dropping = drops; none_before = h }, ap (λ o. unwrap_or o (past_at run place)) h)

-- **what the judge read stood before its drop's first step**
pub read_at_first : SentAreRead → (run : Run) (key : List ℕ) (place : ℕ) (e : Entry) (x : Removal) (judge : Judge) → IsRun run → slice_get run.entries place ≡ Some e → removal_at run key place e ≡ Some x → judge_at run place e ≡ Some judge
    → (first : ℕ) × IsFirstStep run judge.repo judge.job first × (read_at judge.past judge.repo judge.job ≡ past_at run first)
read_at_first reads_back run key place e x judge h at is judge_is = elim (removal_was run.repos e (past_at run place) key x is) [ inl t ↦ by_own t | inr t ↦ by_order t ]
  where
    Reads : Judge → Type 0
    Reads y = (first : ℕ) × IsFirstStep run y.repo y.job first × (read_at y.past y.repo y.job ≡ past_at run first)

    reads : (y : Judge) → judge_at run place e ≡ Some y → Reads y → Reads judge
    reads y y_is k = subst Reads (same_Some y judge (sym y_is ∙ judge_is)) k

    by_own : Removes run.repos e (past_at run place) key x → Reads judge
    by_own t =
        let made = step_made run.repos (past_at run place) t.r t.j t.d (messages_at reads_back run place h) t.decided_is in
        reads (record { repo = t.r; job = t.j; past = past_at run place }) (rw (repo_of e t.r t.repo_is, t.kind_is) refl) (read_first run place t.r t.j made.0 made.1)

    by_order : Obeys run.repos e (past_at run place) key x → Reads judge
    by_order t =
        let o = order_obeyed reads_back run place t.r t.a t.slot key h (record { entry = e; entry_is = at; repo_is = t.repo_is; kind_is = t.kind_is }) in
        let same : o.taken.entry ≡ e = same_Some o.taken.entry e (sym o.taken.entry_is ∙ at) in
        let y = o.order in
        let found = ((meets_at reads_back run o.at y.entry h y.entry_is).own t.a y.repo_is).orders o.j t.r o.deadline o.need key y.kind_is in
        let step : is_step o.j y.entry.kind ≡ true = ap (is_step o.j) y.kind_is ∙ eqb_refl o.j in
        reads (record { repo = t.a; job = o.j; past = past_at run o.at }) (subst (λ z. judge_at run place z ≡ Some (record { repo = t.a; job = o.j; past = past_at run o.at })) same o.judge_is)
        (read_now run o.at t.a o.j y.entry y.entry_is y.repo_is step found.dropping)
