-- The texts of expressions that are kept while lines are added.
use Rattle.std.proofs.Common.{◌≡◌, ℕ, ◌+◌, ◌<◌, ◌==◌, true, false, if◌then◌else◌, List, [], ◌∷◌, ◌++◌, length, fold, get_or, map, take, Option, Some, None, IfSome, Ok, Err, Result, OnOk, OnErr, refl, sym, ap, subst, ◌∙◌, bytes_eq}
use Rattle.std.specs.declared.vec.Vec.{Vec}
use Rattle.std.specs.declared.alloc.Global.{Global}
use Rattle.std.specs.BTreeMap.{insert_entry}
use Rattle.std.specs.Option.{option_map}
use Rattle.std.proofs.lemmas.Bool.{false≢true}
use Rattle.std.proofs.lemmas.List.{map-append, take_more}
use Rattle.std.proofs.lemmas.Slice.Eq.{bytes_eq-Decides}
use Rattle.annex_base.specs.ByteOrder.{path_cmp, text_cmp}
use Rattle.annex_base.proofs.Conditions.{by_test, bytes_eq-true}
use Rattle.annex_base.proofs.Lists.{Each-member, Each-push, Each-weaker, Member-map}
use Rattle.annex_base.proofs.Rows.{shown-insert_entry}
use Rattle.log_lines.specs.declared.entry.Entry.{Entry}
use Rattle.log_lines.specs.declared.entry.LogKind.{LogKind}
use Rattle.log_lines.specs.declared.entry.LogKind.TheVariants as kinds
use Rattle.log_lines.specs.declared.entry.Topic.{Topic}
use Rattle.log_lines.specs.declared.entry.Topic.TheVariants as topics
use Rattle.log_lines.specs.declared.entry.Value.{Value}
use Rattle.log_lines.specs.declared.entry.Value.TheVariants as values
use Rattle.log_lines.specs.Files.{file_name}
use Rattle.log_lines.specs.Index.{Index}
use Rattle.log_lines.specs.Newest.{entry_at, same_topic, with_entry_if}
use Rattle.log_lines.specs.Reading.{entry_of}
use Rattle.wanted_expr.specs.Formula.{Formula}
use Rattle.wanted_expr.specs.Wanted.{formula_read, group_formula, standard_text, without_groupwanted}
use Rattle.trust_groups.specs.Adding.{lines_and}
use Rattle.trust_groups.specs.Exprs.{AreReadOnce, AreRight, Exprs, HasExpr, HaveAllExprs, HaveExprs, HaveExprsOf, HaveExprsSaid, KeepExprs, expr_at, exprs_shown, has_exprs, texts_in, texts_said}
use Rattle.trust_groups.specs.Reads.{HaveReadLines, Indices, kind_at, lines_with, view_of}
use Rattle.trust_groups.specs.Settings.{Lines, groups_in, text_in, value_in}
use Rattle.trust_groups.specs.View.{IsGroupOfSome, entries_of, settings_of, text_read}
use Rattle.trust_groups.proofs.IndexLemmas.{put_other, put_own}
use Rattle.trust_groups.proofs.KeptLemmas.{file_read}
use Rattle.trust_groups.proofs.LineLemmas.{lines_both, lines_if, newest_hold, one_line}
use Rattle.trust_groups.proofs.ReadsLemmas.{reads_none}

-- ---- a text is put in with what it says

abbrev Puts : Exprs → List ℕ → Exprs → Type 0
Puts old text new = new ≡ insert_entry text_cmp old text (formula_read text)

pub expr_put : (old new : List (Vec ℕ Global × Formula)) (key : Vec ℕ Global) (text : List ℕ) (formula : Formula) → new ≡ insert_entry path_cmp old key formula → key.items ≡ text → formula ≡ formula_read text
    → exprs_shown new ≡ insert_entry text_cmp (exprs_shown old) text (formula_read text)
expr_put old new key text formula put named is =
    ap exprs_shown put
    ∙ shown-insert_entry old key formula
    ∙ ap (λ (t : List ℕ). insert_entry text_cmp (exprs_shown old) t formula) named
    ∙ ap (insert_entry text_cmp (exprs_shown old) text) is

-- what is found of a text then
found_then : (old : Exprs) (text q : List ℕ) (P : Option Formula → Type 0) → (text ≡ q → P (Some (formula_read q))) → P (expr_at old q) → P (expr_at (insert_entry text_cmp old text (formula_read text)) q)
found_then old text q P own other =
    by_test (bytes_eq text q)
    (λ t.
    let same = bytes_eq-true text q t in
    subst P (sym (ap (λ (x : List ℕ). expr_at (insert_entry text_cmp old x (formula_read x)) q) same ∙ put_own old q (formula_read q))) (own same))
    (λ t. subst P (sym (put_other old text q (formula_read text) (λ same. absurd (false≢true (sym t ∙ (bytes_eq-Decides text q).1 same))))) other)

pub put_right : (old new : Exprs) (text : List ℕ) → Puts old text new → AreRight old → AreRight new
put_right old new text puts right q =
    subst (λ (es : Exprs). IfSome (expr_at es q) (λ f. f ≡ formula_read q)) (sym puts) (found_then old text q (λ o. IfSome o (λ f. f ≡ formula_read q)) (λ same. refl) (right q))

pub put_keeps_exprs : (old new : Exprs) (text : List ℕ) → Puts old text new → KeepExprs old new
put_keeps_exprs old new text puts q has some =
    subst (λ (es : Exprs). expr_at es q ≡ Some (formula_read q)) (sym puts) (found_then old text q (λ o. o ≡ Some (formula_read q)) (λ same. refl) (has some))

pub put_has_expr : (old new : Exprs) (text : List ℕ) → Puts old text new → HasExpr new text
put_has_expr old new text puts some = ap (λ (es : Exprs). expr_at es text) puts ∙ put_own old text (formula_read text)

pub none_right : (es : List (Vec ℕ Global × Formula)) → es ≡ [] → AreRight (exprs_shown es)
none_right es none text = subst (λ (e : List (Vec ℕ Global × Formula)). IfSome (expr_at (exprs_shown e) text) (λ f. f ≡ formula_read text)) (sym none) tt

-- what is found of a text is what it says
right_at : (o : Option Formula) (formula : Formula) → IfSome o (λ f. f ≡ formula) → (o ≡ None → ⊥) → o ≡ Some formula
right_at None formula right some = absurd (some refl)
right_at (Some f) formula right some = ap Some right

pub known_has : (exprs : Exprs) (text : List ℕ) → AreRight exprs → (expr_at exprs text ≡ None → ⊥) → HasExpr exprs text
known_has exprs text right known some = right_at (expr_at exprs text) (formula_read text) (right text) known

-- ---- what is found of a text

pub some_reads : (exprs : Exprs) (text : List ℕ) → (length text == 0) ≡ false → HasExpr exprs text → expr_at exprs text ≡ text_read formula_read text
some_reads exprs [] some has = absurd (false≢true (sym some))
some_reads exprs (b ∷ bs) some has = has refl

pub group_reads : (text : List ℕ) → option_map without_groupwanted (text_read formula_read text) ≡ text_read group_formula text
group_reads [] = refl
group_reads (b ∷ bs) = refl

-- ---- the entries that lines leave

at_topic : (exprs : Exprs) (es : List Entry) (topic : Topic) → HaveExprsOf exprs es → HaveExprs exprs (texts_said (entry_at es topic))
at_topic exprs [] topic have = tt
at_topic exprs (e ∷ es) topic have = elim (same_topic topic e.topic) as (λ b. HaveExprs exprs (texts_said (if b then Some e else entry_at es topic))) [
  | true ↦ have.0
  | false ↦ at_topic exprs es topic have.1
]

value_text : (exprs : Exprs) (value : Value) → HaveExprs exprs (texts_in value) → HasExpr exprs (text_in (Some value))
value_text exprs (values.Text text) have = have.0
value_text exprs value have = λ some. absurd (false≢true some)

text_has : (exprs : Exprs) (o : Option Entry) → HaveExprs exprs (texts_said o) → HasExpr exprs (text_in (value_in o))
text_has exprs None have = λ some. absurd (false≢true some)
text_has exprs (Some e) have = value_text exprs e.value have

value_groups : (exprs : Exprs) (value : Value) → HaveExprs exprs (texts_in value) → HaveExprs exprs (map standard_text (groups_in (Some value)))
value_groups exprs (values.Groups groups) have = have
value_groups exprs value have = tt

groups_have : (exprs : Exprs) (o : Option Entry) → HaveExprs exprs (texts_said o) → HaveExprs exprs (map standard_text (groups_in (value_in o)))
groups_have exprs None have = tt
groups_have exprs (Some e) have = value_groups exprs e.value have

-- ---- what the settings keep

kept_at : (exprs : Exprs) (indices : Indices) (kind : LogKind) (topic : Topic) → has_exprs kind ≡ true → kind_at (file_name kind) ≡ kind → AreReadOnce exprs indices → HaveExprs exprs (texts_said (entry_at (entries_of indices kind) topic))
kept_at exprs indices kind topic has named kept =
    let name = file_name kind in
    at_topic exprs (entries_of indices kind) topic
    (subst (HaveExprsOf exprs)
    (sym (file_read indices kept.lines kept.reads name ∙ ap (λ (k : LogKind). fold (λ so_far line. with_entry_if so_far (entry_of k line)) [] (kept.lines name)) named))
    (newest_hold (λ (o : Option Entry). HaveExprs exprs (texts_said o)) kind (kept.lines name) [] tt (kept.have kind has)))

pub kept_preferred : (exprs : Exprs) (indices : Indices) (repo : List ℕ) → AreReadOnce exprs indices → HasExpr exprs ((settings_of indices).preferred repo)
kept_preferred exprs indices repo kept = text_has exprs (entry_at (entries_of indices kinds.Preferred) (topics.Repo repo)) (kept_at exprs indices kinds.Preferred (topics.Repo repo) refl refl kept)

pub kept_required : (exprs : Exprs) (indices : Indices) (repo : List ℕ) → AreReadOnce exprs indices → HasExpr exprs ((settings_of indices).required repo)
kept_required exprs indices repo kept = text_has exprs (entry_at (entries_of indices kinds.Required) (topics.Repo repo)) (kept_at exprs indices kinds.Required (topics.Repo repo) refl refl kept)

pub kept_group : (exprs : Exprs) (indices : Indices) (group : List ℕ) → AreReadOnce exprs indices → HasExpr exprs ((settings_of indices).group_preferred group)
kept_group exprs indices group kept = text_has exprs (entry_at (entries_of indices kinds.GroupPreferred) (topics.Group group)) (kept_at exprs indices kinds.GroupPreferred (topics.Group group) refl refl kept)

pub kept_standard : (exprs : Exprs) (indices : Indices) (group : List ℕ) → AreReadOnce exprs indices → IsGroupOfSome (settings_of indices) group → HasExpr exprs (standard_text group)
kept_standard exprs indices group kept of_some =
    let groups = (settings_of indices).groups of_some.0 in
    let have = groups_have exprs (entry_at (entries_of indices kinds.Group) (topics.Repo of_some.0)) (kept_at exprs indices kinds.Group (topics.Repo of_some.0) refl refl kept) in
    Each-member (HasExpr exprs) (map standard_text groups) (standard_text group) have (Member-map standard_text groups group of_some.1)

-- ---- texts and lines are added

pub texts_keep : (old new : Exprs) → KeepExprs old new → (texts : List (List ℕ)) → HaveExprs old texts → HaveExprs new texts
texts_keep old new keeps texts have = Each-weaker (HasExpr old) (HasExpr new) keeps texts have

pub said_keep : (old new : Exprs) (kind : LogKind) (lines : List (List ℕ)) → KeepExprs old new → HaveExprsSaid old kind lines → HaveExprsSaid new kind lines
said_keep old new kind lines keeps have line among = texts_keep old new keeps (texts_said (entry_of kind line)) (have line among)

pub next_standard : (exprs : Exprs) (groups : List (List ℕ)) (i : ℕ) (group text : List ℕ) → i < length groups → group ≡ get_or groups i group → text ≡ standard_text group → HaveExprs exprs (map standard_text (take i groups)) → HasExpr exprs text
    → HaveExprs exprs (map standard_text (take (i + 1) groups))
next_standard exprs groups i group text within is says have has =
    subst (HaveExprs exprs)
    (sym (ap (map standard_text) (take_more groups i group within) ∙ map-append standard_text (take i groups) (get_or groups i group ∷ [])))
    (Each-push (HasExpr exprs) (map standard_text (take i groups)) (standard_text (get_or groups i group)) have (subst (HasExpr exprs) (says ∙ ap standard_text is) has))

exprs_kind : (kind : LogKind) → has_exprs kind ≡ true → kind_at (file_name kind) ≡ kind
exprs_kind kinds.Group has = refl
exprs_kind kinds.Preferred has = refl
exprs_kind kinds.Required has = refl
exprs_kind kinds.GroupPreferred has = refl
exprs_kind kind has = absurd (false≢true has)

pub have_more_exprs : (old new : Exprs) (lines : Lines) (path : List ℕ) (more : List (List ℕ)) → HaveAllExprs old lines → KeepExprs old new → (has_exprs (kind_at path) ≡ true → HaveExprsSaid new (kind_at path) more) → HaveAllExprs new (lines_and lines path more)
have_more_exprs old new lines path more have keeps said kind has =
    let P = λ (line : List ℕ). HaveExprs new (texts_said (entry_of kind line)) in
    let was = said_keep old new kind (lines (file_name kind)) keeps (have kind has) in
    lines_if P (bytes_eq path (file_name kind)) (lines (file_name kind) ++ more) (lines (file_name kind))
    (λ t.
    let is : kind_at path ≡ kind = ap kind_at (bytes_eq-true path (file_name kind) t) ∙ exprs_kind kind has in
    lines_both P (lines (file_name kind)) more was (subst (λ (k : LogKind). HaveExprsSaid new k more) is (said (ap has_exprs is ∙ has))))
    (λ t. was)

pub none_read : (exprs : Exprs) (es : List (Vec ℕ Global × Index)) → es ≡ [] → AreReadOnce exprs (view_of es)
none_read exprs es none = record { lines = λ path. []; reads = reads_none es none; have = λ kind has line among. absurd among }

pub still_read : (old new : Exprs) (was is : Indices) → AreReadOnce old was → KeepExprs old new → is ≡ was → AreReadOnce new is
still_read old new was is kept keeps same = record {
  lines = kept.lines;
  reads = subst (λ (es : Indices). HaveReadLines es kept.lines) (sym same) kept.reads;
  have = λ kind has. said_keep old new kind (kept.lines (file_name kind)) keeps (kept.have kind has);
}

-- one line more, where there is memory
pub line_read : {T E : Type 0} (result : Result T E) (old new : Exprs) (was is : Indices) (path line : List ℕ) → AreReadOnce old was → KeepExprs old new
    → (has_exprs (kind_at path) ≡ true → HaveExprs new (texts_said (entry_of (kind_at path) line)))
    → OnOk result ((lines : Lines) → HaveReadLines was lines → HaveReadLines is (lines_with lines path line))
    → OnErr result (is ≡ was) → AreReadOnce new is
line_read (Ok v) old new was is path line kept keeps has reads same = record {
  lines = lines_with kept.lines path line;
  reads = reads kept.lines kept.reads;
  have = have_more_exprs old new kept.lines path (line ∷ []) kept.have keeps (λ of. one_line (λ (l : List ℕ). HaveExprs new (texts_said (entry_of (kind_at path) l))) line (has of));
}
line_read (Err e) old new was is path line kept keeps has reads same = still_read old new was is kept keeps same
