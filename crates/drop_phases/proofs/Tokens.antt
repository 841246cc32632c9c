-- What a job has of a table, as the table changes.
use Rattle.std.proofs.Common.{◌≡◌, ℕ, Bool, true, false, List, Option, Some, None, refl, sym, ap, ◌∙◌, arith, subst}
use Rattle.std.specs.Prelude.{◌==◌, if◌then◌else◌, bytes_eq}
use Rattle.std.specs.Cmp.Lexicographic.{same_text}
use Rattle.std.proofs.lemmas.Bool.Decides.{nat_tests}
use Rattle.annex_base.proofs.Conditions.{eqb_refl}
use Rattle.run_data.specs.declared.row.Hold.{Hold}
use Rattle.run_data.specs.declared.entry.By.{By}
use Rattle.run_data.specs.declared.entry.By.TheVariants.{Job as by_job}
use Rattle.node_model.specs.Rows.{option_is, same_owner}
use Rattle.content_lock.specs.Rows.{Rows, bar_at}
use Rattle.content_lock.specs.Tokens.{BarView, Owns, ShareView}
use Rattle.drop_phases.specs.declared.phase.Token.TheVariants as tokens
use Rattle.drop_phases.specs.Doing.{HasToken, OthersStay, share_in}

-- the bar of the job is put on the key
abbrev pub Puts : Rows → Rows → List ℕ → ℕ → Type 0
Puts rows rows' key job = (k : List ℕ) → bar_at rows' k ≡ (if bytes_eq key k then Some job else bar_at rows k)

-- the bar on the key is taken off
abbrev pub TakesOff : Rows → Rows → List ℕ → Type 0
TakesOff rows rows' key = (k : List ℕ) → bar_at rows' k ≡ (if bytes_eq key k then None else bar_at rows k)

-- a bar of the job's, where it had none
pub owns_bar : (job : ℕ) (bar : BarView) (key : List ℕ) (rows rows' : Rows) → bar.key ≡ key → bar.job ≡ job → Puts rows rows' key job → rows'.holds ≡ rows.holds → HasToken job key tokens.Nothing rows → HasToken job key (tokens.Bar bar) rows'
owns_bar job bar key rows rows' same of put stay own =
    record {
      of_key = same;
      of_job = of;
      bars = λ k. ap (λ (o : Option ℕ). option_is o job) (put k) ∙ go k (bytes_eq key k) (own.bars k) ∙ sym (ap (λ (t : List ℕ). bytes_eq t k) same);
      holds = subst (λ (hs : List Hold). Owns (by_job job) None hs) (sym stay) own.holds;
    }
  where
    go : (k : List ℕ) (b : Bool) → option_is (bar_at rows k) job ≡ false → option_is (if b then Some job else bar_at rows k) job ≡ b
    go k true e = eqb_refl job
    go k false e = e

-- the job's bar taken off
pub owns_none : (job : ℕ) (bar : BarView) (key : List ℕ) (rows rows' : Rows) → TakesOff rows rows' bar.key → rows'.holds ≡ rows.holds → HasToken job key (tokens.Bar bar) rows → HasToken job key tokens.Nothing rows'
owns_none job bar key rows rows' off stay own =
    record {
      of_key = refl;
      of_job = refl;
      bars = λ k. ap (λ (o : Option ℕ). option_is o job) (off k) ∙ go k (bytes_eq bar.key k) (own.bars k);
      holds = subst (λ (hs : List Hold). Owns (by_job job) None hs) (sym stay) own.holds;
    }
  where
    go : (k : List ℕ) (b : Bool) → option_is (bar_at rows k) job ≡ b → option_is (if b then None else bar_at rows k) job ≡ false
    go k true e = refl
    go k false e = e

-- the job's share given up
pub owns_after_share : (job : ℕ) (share : ShareView) (key : List ℕ) (rows rows' : Rows) → ((k : List ℕ) → bar_at rows' k ≡ bar_at rows k) → (Owns share.owner (Some share) rows.holds → Owns share.owner None rows'.holds)
    → HasToken job key (tokens.Share share) rows → HasToken job key tokens.Nothing rows'
owns_after_share job share key rows rows' bars gives own =
    record {
      of_key = refl;
      of_job = refl;
      bars = λ k. ap (λ (o : Option ℕ). option_is o job) (bars k) ∙ own.bars k;
      holds = subst (λ (by : By). Owns by None rows'.holds) own.holds.owner (gives (subst (λ (by : By). Owns by (Some share) rows.holds) (sym own.holds.owner) own.holds));
    }

-- ---- another job's

others_by : (n : ℕ) (rows rows' : Rows) → ((job : ℕ) (k : List ℕ) → (job ≡ n → ⊥) → option_is (bar_at rows' k) job ≡ option_is (bar_at rows k) job) → rows'.holds ≡ rows.holds → OthersStay n rows rows'
others_by n rows rows' bars stay job key token other own =
    record {
      of_key = own.of_key;
      of_job = own.of_job;
      bars = λ k. bars job k other ∙ own.bars k;
      holds = subst (λ (hs : List Hold). Owns (by_job job) (share_in token) hs) (sym stay) own.holds;
    }

pub others_same : (n : ℕ) (rows rows' : Rows) → rows' ≡ rows → OthersStay n rows rows'
others_same n rows rows' same job key token other own = subst (λ (r : Rows). HasToken job key token r) (sym same) own

pub others_bar : (n : ℕ) (key : List ℕ) (rows rows' : Rows) → Puts rows rows' key n → bar_at rows key ≡ None → rows'.holds ≡ rows.holds → OthersStay n rows rows'
others_bar n key rows rows' put bare stay = others_by n rows rows' (λ job k other. ap (λ (b : Option ℕ). option_is b job) (put k) ∙ go job k other (bytes_eq key k) refl) stay
  where
    differs : (n job : ℕ) → (job ≡ n → ⊥) → (n == job) ≡ false
    differs n job other = grind (arith, nat_tests)

    go : (job : ℕ) (k : List ℕ) → (job ≡ n → ⊥) → (b : Bool) → bytes_eq key k ≡ b → option_is (if b then Some n else bar_at rows k) job ≡ option_is (bar_at rows k) job
    go job k other true e =
        let none : bar_at rows k ≡ None = ap (bar_at rows) (sym (same_text key k (sym e))) ∙ bare in
        differs n job other ∙ ap (λ (b : Option ℕ). option_is b job) (sym none)
    go job k other false e = refl

pub others_off : (n : ℕ) (bar : BarView) (key : List ℕ) (rows rows' : Rows) → TakesOff rows rows' bar.key → HasToken n key (tokens.Bar bar) rows → rows'.holds ≡ rows.holds → OthersStay n rows rows'
others_off n bar key rows rows' off mine stay = others_by n rows rows' (λ job k other. ap (λ (b : Option ℕ). option_is b job) (off k) ∙ go job k other (bytes_eq bar.key k) (mine.bars k)) stay
  where
    apart : (job : ℕ) → (job ≡ n → ⊥) → (was : Option ℕ) → option_is was n ≡ true → false ≡ option_is was job
    apart job other None e = absurd (cc)
    apart job other (Some m) e = grind (arith, nat_tests)

    go : (job : ℕ) (k : List ℕ) → (job ≡ n → ⊥) → (b : Bool) → option_is (bar_at rows k) n ≡ b → option_is (if b then None else bar_at rows k) job ≡ option_is (bar_at rows k) job
    go job k other true e = apart job other (bar_at rows k) e
    go job k other false e = refl

pub others_share : (n : ℕ) (share : ShareView) (key : List ℕ) (rows rows' : Rows) → ((k : List ℕ) → bar_at rows' k ≡ bar_at rows k) → HasToken n key (tokens.Share share) rows
    → ((by : By) (other : Option ShareView) → same_owner share.owner by ≡ false → Owns by other rows.holds → Owns by other rows'.holds) → OthersStay n rows rows'
others_share n share key rows rows' bars mine keep job k token other own =
    record {
      of_key = own.of_key;
      of_job = own.of_job;
      bars = λ q. ap (λ (o : Option ℕ). option_is o job) (bars q) ∙ own.bars q;
      holds = keep (by_job job) (share_in token) (ap (λ (by : By). same_owner by (by_job job)) mine.holds.owner ∙ differs) own.holds;
    }
  where
    differs : (n == job) ≡ false
    differs = grind (arith, nat_tests)
