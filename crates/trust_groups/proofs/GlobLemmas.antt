-- The globs of patterns of paths that are kept while lines are added.
use Rattle.std.proofs.Common.{◌≡◌, ℕ, ◌+◌, Bool, true, false, cond, List, [], ◌∷◌, ◌++◌, Option, Some, None, Ok, Err, Result, OnOk, OnErr, refl, sym, ap, subst, ◌∙◌, bytes_eq}
use Rattle.std.specs.declared.vec.Vec.{Vec}
use Rattle.std.specs.declared.alloc.Global.{Global}
use Rattle.std.specs.Map.{lookup}
use Rattle.std.specs.BTreeMap.{is_at}
use Rattle.std.specs.Ordering.{is_eq}
use Rattle.std.proofs.lemmas.Slice.Eq.{bytes_eq-Decides}
use Rattle.std.proofs.lemmas.Bool.{false≢true}
use Rattle.annex_base.specs.ByteOrder.{text_cmp}
use Rattle.glob_match.specs.declared.item.Item.{Item}
use Rattle.glob_match.specs.Spelled.{glob_in}
use Rattle.log_lines.specs.declared.entry.Entry.{Entry}
use Rattle.log_lines.specs.declared.entry.LogKind.{LogKind}
use Rattle.log_lines.specs.declared.entry.LogKind.TheVariants as kinds
use Rattle.log_lines.specs.Files.{file_name}
use Rattle.log_lines.specs.Index.{Index}
use Rattle.log_lines.specs.Reading.{entry_of}
use Rattle.trust_groups.specs.Adding.{lines_and}
use Rattle.trust_groups.specs.Globs.{AreKept, Globs, HasGlob, HaveAllGlobs, HaveGlobs, HaveGlobsOf, KeepGlobs, is_by_path, pattern_said}
use Rattle.trust_groups.specs.Reads.{HaveReadLines, Indices, kind_at, lines_with, view_of}
use Rattle.trust_groups.specs.Settings.{Lines}
use Rattle.trust_groups.specs.View.{entries_of}
use Rattle.trust_groups.proofs.IndexLemmas.{own_path, same_path}
use Rattle.trust_groups.proofs.KeptLemmas.{file_read}
use Rattle.trust_groups.proofs.LineLemmas.{lines_both, lines_if, newest_hold, one_line}
use Rattle.trust_groups.proofs.ReadsLemmas.{reads_none}

-- ---- a pattern's glob is put in

abbrev PutsGlob : Globs → List ℕ → Option (List Item) → Globs → Type 0
PutsGlob old pattern glob new = (q : List ℕ) → lookup (is_at (text_cmp q)) new ≡ cond (is_at (text_cmp pattern) q) (Some glob) (lookup (is_at (text_cmp q)) old)

put_at : (glob : Option (List Item)) (was want : Option (Option (List Item))) (b : Bool) → (b ≡ true → Some glob ≡ want) → (b ≡ false → was ≡ want) → cond b (Some glob) was ≡ want
put_at glob was want true own other = own refl
put_at glob was want false own other = other refl

pub put_keeps : (old new : Globs) (pattern : List ℕ) (glob : Option (List Item)) → PutsGlob old pattern glob new → glob ≡ glob_in pattern → KeepGlobs old new
put_keeps old new pattern glob puts is None has = tt
put_keeps old new pattern glob puts is (Some q) has =
    puts q ∙ put_at glob (lookup (is_at (text_cmp q)) old) (Some (glob_in q)) (is_eq (text_cmp pattern q)) (λ t. ap Some (is ∙ ap glob_in (same_path pattern q t))) (λ t. has)

pub put_has : (old new : Globs) (pattern : List ℕ) (glob : Option (List Item)) → PutsGlob old pattern glob new → glob ≡ glob_in pattern → HasGlob new (Some pattern)
put_has old new pattern glob puts is =
    puts pattern ∙ put_at glob (lookup (is_at (text_cmp pattern)) old) (Some (glob_in pattern)) (is_eq (text_cmp pattern pattern)) (λ t. ap Some is) (λ t. absurd (false≢true (sym t ∙ own_path pattern)))

pub keep_same : (old new : Globs) → new ≡ old → KeepGlobs old new
keep_same old new same pattern has = subst (λ (g : Globs). HasGlob g pattern) (sym same) has

-- ---- the entries that lines leave

pub kept_numcopies : (globs : Globs) (indices : Indices) → AreKept globs indices → HaveGlobsOf globs (entries_of indices kinds.NumcopiesPath)
kept_numcopies globs indices kept =
    let name = file_name kinds.NumcopiesPath in
    subst (HaveGlobsOf globs) (sym (file_read indices kept.lines kept.reads name)) (newest_hold (λ (o : Option Entry). HasGlob globs (pattern_said o)) kinds.NumcopiesPath (kept.lines name) [] tt (kept.have kinds.NumcopiesPath refl))

pub kept_mincopies : (globs : Globs) (indices : Indices) → AreKept globs indices → HaveGlobsOf globs (entries_of indices kinds.MincopiesPath)
kept_mincopies globs indices kept =
    let name = file_name kinds.MincopiesPath in
    subst (HaveGlobsOf globs) (sym (file_read indices kept.lines kept.reads name)) (newest_hold (λ (o : Option Entry). HasGlob globs (pattern_said o)) kinds.MincopiesPath (kept.lines name) [] tt (kept.have kinds.MincopiesPath refl))

-- ---- lines are added

by_path_kind : (kind : LogKind) → is_by_path kind ≡ true → kind_at (file_name kind) ≡ kind
by_path_kind kinds.NumcopiesPath by = refl
by_path_kind kinds.MincopiesPath by = refl
by_path_kind kind by = absurd (false≢true by)

pub globs_keep : (old new : Globs) (kind : LogKind) (lines : List (List ℕ)) → KeepGlobs old new → HaveGlobs old kind lines → HaveGlobs new kind lines
globs_keep old new kind lines keeps have line among = keeps (pattern_said (entry_of kind line)) (have line among)

pub have_more : (old new : Globs) (lines : Lines) (path : List ℕ) (more : List (List ℕ)) → HaveAllGlobs old lines → KeepGlobs old new → (is_by_path (kind_at path) ≡ true → HaveGlobs new (kind_at path) more) → HaveAllGlobs new (lines_and lines path more)
have_more old new lines path more have keeps said kind by =
    let P = λ (line : List ℕ). HasGlob new (pattern_said (entry_of kind line)) in
    let was = globs_keep old new kind (lines (file_name kind)) keeps (have kind by) in
    lines_if P (bytes_eq path (file_name kind)) (lines (file_name kind) ++ more) (lines (file_name kind))
    (λ t.
    let is : kind_at path ≡ kind = ap kind_at ((bytes_eq-Decides path (file_name kind)).0 t) ∙ by_path_kind kind by in
    lines_both P (lines (file_name kind)) more was (subst (λ (k : LogKind). HaveGlobs new k more) is (said (ap is_by_path is ∙ by))))
    (λ t. was)

pub none_kept : (globs : Globs) (es : List (Vec ℕ Global × Index)) → es ≡ [] → AreKept globs (view_of es)
none_kept globs es none = record { lines = λ path. []; reads = reads_none es none; have = λ kind by line among. absurd among }

pub still_kept : (old new : Globs) (was is : Indices) → AreKept old was → KeepGlobs old new → is ≡ was → AreKept new is
still_kept old new was is kept keeps same = record {
  lines = kept.lines;
  reads = subst (λ (es : Indices). HaveReadLines es kept.lines) (sym same) kept.reads;
  have = λ kind by. globs_keep old new kind (kept.lines (file_name kind)) keeps (kept.have kind by);
}

-- one line more, where there is memory
pub line_kept : {T E : Type 0} (result : Result T E) (old new : Globs) (was is : Indices) (path line : List ℕ) → AreKept old was → KeepGlobs old new
    → (is_by_path (kind_at path) ≡ true → HasGlob new (pattern_said (entry_of (kind_at path) line)))
    → OnOk result ((lines : Lines) → HaveReadLines was lines → HaveReadLines is (lines_with lines path line))
    → OnErr result (is ≡ was) → AreKept new is
line_kept (Ok v) old new was is path line kept keeps has reads same = record {
  lines = lines_with kept.lines path line;
  reads = reads kept.lines kept.reads;
  have = have_more old new kept.lines path (line ∷ []) kept.have keeps (λ by. one_line (λ (l : List ℕ). HasGlob new (pattern_said (entry_of (kind_at path) l))) line (has by));
}
line_kept (Err e) old new was is path line kept keeps has reads same = still_kept old new was is kept keeps same
