-- Without an expression everything is wanted and nothing required; what a text reads as.
use Rattle.std.proofs.Common.{◌≡◌, ℕ, Bool, true, false, List, [], Option, None, Err, refl, sym, ap, ◌∙◌, unwrap_or}
use Rattle.std.proofs.lemmas.Bool.{false≢true}
use Rattle.annex_base.specs.Settings.{Settings}
use Rattle.annex_base.proofs.Options.{none_by}
use Rattle.wanted_expr.specs.declared.data.Word.TheVariants.{Present}
use Rattle.wanted_expr.specs.declared.fault.ExprFault.{ExprFault}
use Rattle.wanted_expr.specs.Expressions.{IsExpression}
use Rattle.wanted_expr.specs.Finding.{is_memory}
use Rattle.wanted_expr.specs.Formula.{Formula, Atom}
use Rattle.wanted_expr.specs.Parsed.{formula_in}
use Rattle.wanted_expr.specs.Reading.{Answers}
use Rattle.wanted_expr.specs.Wanted.{formula_read, required, wants}
use Rattle.wanted_expr.proofs.ParseLemmas.{refused_only}
use Rattle.wanted_expr.proofs.ParsedLemmas.{GlobsAreRead, formula_exact}
use Rattle.wanted_expr.proofs.UniqueLemmas.{GlobsAreUnique}

pub wants_all : (s : Settings) (repo key : List ℕ) (paths : List (List ℕ)) (gone : Bool) → s.preferred repo ≡ [] → wants s repo key paths gone ≡ true
unfolding wants
wants_all s repo key paths gone none = rw none refl

pub requires_none : (s : Settings) (repo key : List ℕ) (paths : List (List ℕ)) → s.required repo ≡ [] → required s repo key paths ≡ None
unfolding required
requires_none s repo key paths none = rw none refl

-- ---- what a text reads as

pub reads_as : GlobsAreRead → (text : List ℕ) (f : Formula) → IsExpression text f → formula_read text ≡ f
reads_as globs text f is = ap (λ (o : Option Formula). unwrap_or o (Atom Present)) ((formula_exact globs text f).1 is)

pub reads_as_present : GlobsAreRead → (text : List ℕ) → ((f : Formula) → IsExpression text f → ⊥) → formula_read text ≡ Atom Present
reads_as_present globs text none = ap (λ (o : Option Formula). unwrap_or o (Atom Present)) (none_by (formula_in text) (λ f e. none f ((formula_exact globs text f).0 e)))

pub refused_reads : GlobsAreUnique → GlobsAreRead → (text : List ℕ) (e : ExprFault) → Answers text (Err e) → is_memory e ≡ false → formula_read text ≡ Atom Present
refused_reads unique globs text e answers fault = reads_as_present globs text (λ f is. absurd (false≢true (sym fault ∙ ap is_memory (refused_only unique text e f answers is))))
