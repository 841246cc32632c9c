-- No line of a log names a repository without an identifier.
use Rattle.std.proofs.Common.{◌≡◌, ◌≢◌, ℕ, List, [], length, Option, None, sym, ap, subst, ◌∙◌}
use Rattle.std.specs.Prelude.{◌↔◌, bytes_eq}
use Rattle.std.specs.List.{list_any}
use Rattle.log_lines.specs.declared.entry.Entry.{Entry}
use Rattle.log_lines.specs.declared.entry.LogKind.{LogKind}
use Rattle.log_lines.specs.declared.entry.LogKind.TheVariants as kinds
use Rattle.log_lines.specs.declared.entry.Topic.{Topic}
use Rattle.log_lines.specs.declared.entry.Topic.TheVariants as topics
use Rattle.log_lines.specs.Files.{file_name}
use Rattle.log_lines.specs.Keeping.{Says}
use Rattle.log_lines.specs.Newest.{newest_of}
use Rattle.node_model.specs.Evidence as drops
use Rattle.node_model.specs.Evidence.{standing_by, standing_seen}
use Rattle.trust_groups.specs.Settings.{Lines, claims, level_in, settings, value_in}

same_repo : (x y : List ℕ) → topics.Repo x ≡ topics.Repo y → x ≡ y
same_repo x y e = cc

none_said : (lines : List (List ℕ)) (e : Entry) → Says kinds.Trust lines e → e.topic ≡ topics.Repo [] → ⊥
none_said lines e said here =
    let form = said.says.form in
    let same : form.id ≡ [] = same_repo form.id [] (sym form.topic ∙ here) in
    let none : ◌≡◌ {A = ℕ} 0 16 = subst (λ (id : List ℕ). length id ≡ 16) same form.repo.0 in
    cc

pub nameless_asked : ((kind : LogKind) (lines : List (List ℕ)) (topic : Topic) → (newest_of kind lines topic ≡ None) ↔ ((e : Entry) → Says kind lines e → e.topic ≢ topic)) → (lines : Lines) (key : List ℕ)
    → standing_by (settings lines) key [] ≡ drops.Asked
nameless_asked law lines key =
    ap (λ (o : Option Entry). standing_seen (level_in (value_in o)) (list_any (λ claimed. bytes_eq claimed []) (claims lines key)))
    ((law kinds.Trust (lines (file_name kinds.Trust)) (topics.Repo [])).1 (none_said (lines (file_name kinds.Trust))))
