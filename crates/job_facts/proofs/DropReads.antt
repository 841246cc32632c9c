-- What a drop reads is fixed from its first step.
use Rattle.std.proofs.Common.{◌≡◌, ℕ, Bool, true, false, List, ◌∷◌, Option, Some, None, refl, sym, ap, ◌∙◌, subst}
use Rattle.std.specs.Prelude.{if◌then◌else◌, ◌==◌, ◌&&◌, find, option_map}
use Rattle.std.specs.Option.{option_or, unwrap_or}
use Rattle.std.proofs.lemmas.Bool.{and_from, or_right}
use Rattle.annex_base.proofs.Conditions.{eqb_refl}
use Rattle.run_data.specs.declared.entry.Entry.{Entry}
use Rattle.run_data.specs.declared.entry.EntryKind.TheVariants.{Begin}
use Rattle.run_data.specs.declared.job.JobKind.{JobKind}
use Rattle.run_data.specs.declared.job.JobKind.TheVariants as kinds
use Rattle.run_model.specs.Past.{is_of}
use Rattle.run_model.specs.Logs.{before_step, in_drop, is_drop, is_step, read_at, settings_of, starts_drop}
use Rattle.node_model.specs.SetUp.{SetUp}
use Rattle.node_model.specs.Jobs.{Drops, Heard, Work, first_part}
use Rattle.step_facts.proofs.JobSteps.{Begins}

-- the first thing that a list has of a repository
abbrev pub told_of : List (ℕ × Heard) → ℕ → Option Heard
told_of heard c = option_map (λ x. x.1) (find (λ x. x.0 == c) heard)

-- ---- when it was read

pub read_kept : (past : List Entry) (e : Entry) (r j : ℕ) → (b : List Entry) × (before_step past r j ≡ Some b) → (b : List Entry) × (before_step (e ∷ past) r j ≡ Some b)
read_kept past e r j x = (x.0, rw x.1 refl)

pub stays_read : (past : List Entry) (e : Entry) (r j : ℕ) → (b : List Entry) × (before_step past r j ≡ Some b) → settings_of (read_at (e ∷ past) r j) r ≡ settings_of (read_at past r j) r
unfolding read_kept
stays_read past e r j x =
    let now : read_at (e ∷ past) r j ≡ x.0 = ap (λ (o : Option (List Entry)). unwrap_or o (e ∷ past)) (read_kept past e r j x).1 in
    let old : read_at past r j ≡ x.0 = ap (λ (o : Option (List Entry)). unwrap_or o past) x.1 in
    ap (λ p. settings_of p r) (now ∙ sym old)

-- a step of the drop itself: it reads then, or has read before
pub step_read : (past : List Entry) (e : Entry) (r j : ℕ) → is_of r e ≡ true → is_step j e.kind ≡ true → in_drop past r j ≡ true
    → ((b : List Entry) × (before_step (e ∷ past) r j ≡ Some b)) × (read_at (e ∷ past) r j ≡ read_at past r j)
step_read past e r j is step drop =
    let all : (is_of r e && (is_step j e.kind && in_drop past r j)) ≡ true = rw (is, step) drop in
    go (before_step past r j) (is_of r e && (is_step j e.kind && in_drop past r j)) all
  where
    go : (o : Option (List Entry)) (b : Bool) → b ≡ true
        → ((x : List Entry) × (option_or o (if b then Some past else None) ≡ Some x)) × (unwrap_or (option_or o (if b then Some past else None)) (e ∷ past) ≡ unwrap_or o past)
    go None true h = ((past, refl), refl)
    go (Some x) true h = ((x, refl), refl)
    go o false h = absurd (cc)

first_drop : (kind : JobKind) → first_part kind ≡ Drops → is_drop kind ≡ true
first_drop kinds.Drop e = refl
first_drop kinds.Get e = absurd (cc)
first_drop kinds.Copy e = absurd (cc)
first_drop kinds.MoveTo e = absurd (cc)
first_drop kinds.MoveFrom e = absurd (cc)

pub begun_drop : (s : SetUp) (past : List Entry) (e : Entry) (w : Work) → is_of s.number e ≡ true → Begins s past e w → w.part ≡ Drops → in_drop (e ∷ past) s.number w.number ≡ true
begun_drop s past e w is b part =
    let first : first_part b.what.kind ≡ Drops = sym (ap (λ (y : Work). y.part) b.work_is) ∙ part in
    let number : w.number ≡ b.job = ap (λ (y : Work). y.number) b.work_is in
    let starts : starts_drop past s.number w.number e (Begin b.job b.what) ≡ true =
    subst (λ n. ((b.job == n) && is_drop b.what.kind) ≡ true) (sym number) (and_from (b.job == b.job) (is_drop b.what.kind) (eqb_refl b.job) (first_drop b.what.kind first)) in
    or_right (in_drop past s.number w.number) (is_of s.number e && starts_drop past s.number w.number e e.kind)
    (and_from (is_of s.number e) (starts_drop past s.number w.number e e.kind) is (subst (λ k. starts_drop past s.number w.number e k ≡ true) (sym b.kind_is) starts))
