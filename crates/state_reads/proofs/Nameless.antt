-- No line of a log names a repository without an identifier.
use Rattle.std.proofs.Common.{◌≡◌, ◌≢◌, ℕ, true, List, [], length, Option, Some, None, sym, ap, ◌∙◌, arith}
use Rattle.std.specs.Prelude.{◌↔◌, ◌&&◌, if◌then◌else◌, bytes_eq}
use Rattle.std.specs.List.{list_any}
use Rattle.annex_base.specs.Settings.{Settings}
use Rattle.log_lines.specs.declared.entry.Entry.{Entry}
use Rattle.log_lines.specs.declared.entry.LogKind.{LogKind}
use Rattle.log_lines.specs.declared.entry.LogKind.TheVariants as kinds
use Rattle.log_lines.specs.declared.entry.Topic.{Topic}
use Rattle.log_lines.specs.declared.entry.Topic.TheVariants as topics
use Rattle.log_lines.specs.declared.entry.Value.{Value}
use Rattle.log_lines.specs.Files.{file_name}
use Rattle.log_lines.specs.Keeping.{Says}
use Rattle.log_lines.specs.LineText.{IsLevelBody, IsRepoLine, IsTextBody}
use Rattle.log_lines.specs.Newest.{newest_of}
use Rattle.node_model.specs.Evidence as drops
use Rattle.node_model.specs.Evidence.{standing_by, standing_seen}
use Rattle.trust_groups.specs.Settings.{Lines, claims, level_in, settings, text_in, value_in}
use Rattle.wanted_expr.specs.Wanted.{is_text, is_true, required}

-- the law of the newest entries, as the lemmas take it
abbrev pub NothingFound : Type 0
NothingFound = (kind : LogKind) (lines : List (List ℕ)) (topic : Topic) → (newest_of kind lines topic ≡ None) ↔ ((e : Entry) → Says kind lines e → e.topic ≢ topic)

same_repo : (x y : List ℕ) → topics.Repo x ≡ topics.Repo y → x ≡ y
same_repo x y e = cc

unnamed : (IsBody : Value → List ℕ → Type 0) (line : List ℕ) (e : Entry) → IsRepoLine IsBody line e → e.topic ≡ topics.Repo [] → ⊥
unnamed IsBody line e form here =
    let same : form.id ≡ [] = same_repo form.id [] (sym form.topic ∙ here) in
    let none : length form.id ≡ 0 = ap (λ (id : List ℕ). length id) same in
    absurd (omega (arith, none, form.repo.0))

pub nameless_asked : NothingFound → (lines : Lines) (key : List ℕ) → standing_by (settings lines) key [] ≡ drops.Asked
nameless_asked law lines key =
    ap (λ (o : Option Entry). standing_seen (level_in (value_in o)) (list_any (λ claimed. bytes_eq claimed []) (claims lines key)))
    ((law kinds.Trust (lines (file_name kinds.Trust)) (topics.Repo [])).1 (λ e said here. unnamed IsLevelBody said.line e said.says.form here))

nameless_text : NothingFound → (lines : Lines) → (settings lines).required [] ≡ []
nameless_text law lines =
    ap (λ (o : Option Entry). text_in (value_in o))
    ((law kinds.Required (lines (file_name kinds.Required)) (topics.Repo [])).1 (λ e said here. unnamed IsTextBody said.line e said.says.form here))

-- no expression requires nothing
no_text : (r : Settings) (repo key : List ℕ) (paths : List (List ℕ)) → r.required repo ≡ [] → required r repo key paths ≡ None
unfolding required
no_text r repo key paths none = λ i. if is_text (none i) && is_true r repo key paths true (none i) then Some (none i) else None

pub nameless_requires : NothingFound → (lines : Lines) (key : List ℕ) (paths : List (List ℕ)) → required (settings lines) [] key paths ≡ None
nameless_requires law lines key paths = no_text (settings lines) [] key paths (nameless_text law lines)
