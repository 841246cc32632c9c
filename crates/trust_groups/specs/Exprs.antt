-- What the texts of expressions say, kept while their lines are added (for private contracts).
use Rattle.std.specs.Prelude.{◌≡◌, ℕ, Bool, true, false, List, [], ◌∷◌, map, Option, Some, None, IfSome}
use Rattle.std.specs.declared.vec.Vec.{Vec}
use Rattle.std.specs.declared.alloc.Global.{Global}
use Rattle.std.specs.Map.{lookup}
use Rattle.std.specs.BTreeMap.{is_at}
use Rattle.annex_base.specs.ByteOrder.{text_cmp}
use Rattle.annex_base.specs.Lists.{Each, Member}
use Rattle.log_lines.specs.declared.entry.Entry.{Entry}
use Rattle.log_lines.specs.declared.entry.LogKind.{LogKind}
use Rattle.log_lines.specs.declared.entry.LogKind.TheVariants as kinds
use Rattle.log_lines.specs.declared.entry.Value.{Value}
use Rattle.log_lines.specs.declared.entry.Value.TheVariants as values
use Rattle.log_lines.specs.Files.{file_name}
use Rattle.log_lines.specs.Reading.{entry_of}
use Rattle.wanted_expr.specs.Formula.{Formula}
use Rattle.wanted_expr.specs.Wanted.{formula_read, is_text, standard_text}
use Rattle.trust_groups.specs.Settings.{Lines}
use Rattle.trust_groups.specs.Reads.{HaveReadLines, Indices}

-- of each text that was read, what it says; in order of text
abbrev pub Exprs : Type 0
Exprs = List (List ℕ × Formula)

-- a map's entries without where their texts lie in memory
abbrev pub exprs_shown : List (Vec ℕ Global × Formula) → Exprs
exprs_shown exprs = map (λ e. (e.0.items, e.1)) exprs

abbrev pub expr_at : Exprs → List ℕ → Option Formula
expr_at exprs text = lookup (is_at (text_cmp text)) exprs

-- whatever is kept of a text is what it says
abbrev pub AreRight : Exprs → Type 0
AreRight exprs = (text : List ℕ) → IfSome (expr_at exprs text) (λ formula. formula ≡ formula_read text)

-- a text is kept with what it says, unless it is empty
abbrev pub HasExpr : Exprs → List ℕ → Type 0
HasExpr exprs text = is_text text ≡ true → expr_at exprs text ≡ Some (formula_read text)

abbrev pub HaveExprs : Exprs → List (List ℕ) → Type 0
HaveExprs exprs texts = Each (HasExpr exprs) texts

-- what one keeps, the other keeps
abbrev pub KeepExprs : Exprs → Exprs → Type 0
KeepExprs old new = (text : List ℕ) → HasExpr old text → HasExpr new text

-- the log files of expressions, and that of groups, of which some have a standard expression
abbrev pub has_exprs : LogKind → Bool
has_exprs kinds.Group = true
has_exprs kinds.Preferred = true
has_exprs kinds.Required = true
has_exprs kinds.GroupPreferred = true
has_exprs _ = false

-- the texts of expressions that a value has or stands for
abbrev pub texts_in : Value → List (List ℕ)
texts_in (values.Text text) = text ∷ []
texts_in (values.Groups groups) = map standard_text groups
texts_in _ = []

abbrev pub texts_said : Option Entry → List (List ℕ)
texts_said None = []
texts_said (Some e) = texts_in e.value

-- the texts of lines of a file are kept
abbrev pub HaveExprsSaid : Exprs → LogKind → List (List ℕ) → Type 0
HaveExprsSaid exprs kind lines = (line : List ℕ) → Member line lines → HaveExprs exprs (texts_said (entry_of kind line))

-- so are those of entries
abbrev pub HaveExprsOf : Exprs → List Entry → Type 0
HaveExprsOf exprs es = Each (λ e. HaveExprs exprs (texts_in e.value)) es

-- so are those of the files of expressions and groups
abbrev pub HaveAllExprs : Exprs → Lines → Type 0
HaveAllExprs exprs lines = (kind : LogKind) → has_exprs kind ≡ true → HaveExprsSaid exprs kind (lines (file_name kind))

-- some lines were read, and each text of an expression among them is kept with what it says
pub record AreReadOnce (exprs : Exprs) (indices : Indices) : Type 0 where
  pub lines : Lines
  pub reads : HaveReadLines indices lines
  pub have : HaveAllExprs exprs lines
