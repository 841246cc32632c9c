-- The lines of a journal (own): of an entry, of a repository, and of a change of the tree.
use Rattle.std.specs.Prelude.{◌≡◌, ℕ, ◌<◌, ◌≤◌, Bool, true, false, not, ◌==◌, ◌&&◌, ◌||◌, nat_lt, nat_le, List, [], ◌∷◌, ◌++◌, length, take, drop, Option, Some, None, bytes_eq, codes, if◌then◌else◌}
use Rattle.std.specs.List.{list_any}
use Rattle.std.specs.Fmt.{decimal}
use Rattle.std.specs.declared.cmp.Ordering.{Ordering}
use Rattle.std.specs.declared.cmp.Ordering.TheVariants as orders
use Rattle.annex_base.specs.ByteOrder.{text_cmp}
use Rattle.annex_base.specs.Lines.{is_one_line}
use Rattle.annex_base.specs.OptionSteps.{◌>>=◌}
use Rattle.annex_base.specs.RepoText.{IsId, repo_text, repo_of}
use Rattle.annex_key.specs.Tree.{Entries, with_key}
use Rattle.run_data.specs.declared.run.RepoView.{RepoView}
use Rattle.run_data.specs.declared.run.TreeMark.{TreeMark}
use Rattle.run_data.specs.declared.entry.Entry.{Entry}
use Rattle.run_data.specs.declared.entry.FrameText.{FrameText}
use Rattle.run_data.specs.declared.entry.FrameView.{FrameView}
use Rattle.script_words.specs.Fields.{is_name, is_path, greatest_offset}
use Rattle.journal_text.specs.Journal.{frame_text}
use Rattle.journal_reading.specs.Forms.{Form, number, one_of, passing, or_dash, cut, behind, up_to, row, table, tested}
use Rattle.journal_reading.specs.Fields.{small, large, key, repo_number, IsBody, body_form}
use Rattle.journal_reading.specs.Kinds.{Did, did_form}

-- ---- frames

abbrev pub Parts : Type 0
Parts = ℕ × (ℕ × (Bool × (ℕ × (ℕ × FrameText))))

abbrev pub way_word : Bool → List ℕ
way_word true = codes "up"
way_word false = codes "down"

abbrev pub frame_parts : List RepoView → Form Parts
frame_parts repos = up_to 32 (repo_number repos) (λ p. up_to 32 small (λ s. up_to 32 (one_of way_word (true ∷ false ∷ [])) (λ w. up_to 32 small (λ e. up_to 32 large (λ n. body_form)))))

abbrev pub a_frame : Parts → FrameView
a_frame x = record { peer = x.0; slot = x.1.0; up = x.1.1.0; epoch = x.1.1.1.0; seq = x.1.1.1.1.0; body = x.1.1.1.1.1 }

pub record IsFrame (repos : List RepoView) (f : FrameView) : Type 0 where
  pub peer : f.peer < length repos
  pub slot : f.slot ≤ 4294967295
  pub epoch : f.epoch ≤ 4294967295
  pub seq : f.seq ≤ 18446744073709551615
  pub body : IsBody f.body

-- a frame behind the mark of its line
abbrev pub frame_form : List RepoView → List ℕ → Form FrameView
frame_form repos mark = table (λ f. mark ++ frame_text repos f) (row mark (frame_parts repos) a_frame ∷ []) (IsFrame repos)

-- ---- the order of frames and lines

abbrev pub is_less : Ordering → Bool
is_less orders.Less = true
is_less orders.Equal = false
is_less orders.Greater = false

abbrev pub then_less : ℕ → ℕ → Bool → Bool
then_less x y rest = nat_lt x y || (x == y && rest)

-- this end the client's first
abbrev pub side_rank : Bool → ℕ
side_rank true = 0
side_rank false = 1

abbrev pub comes_before : FrameView → FrameView → Bool
comes_before f g = then_less f.peer g.peer (then_less (side_rank f.up) (side_rank g.up) (then_less f.slot g.slot (then_less f.epoch g.epoch (nat_lt f.seq g.seq))))

abbrev pub may_follow : Option FrameView → FrameView → Bool
may_follow None g = true
may_follow (Some f) g = comes_before f g

abbrev pub line_may_follow : Option (List ℕ) → List ℕ → Bool
line_may_follow None line = true
line_may_follow (Some last) line = is_less (text_cmp last line)

-- a line that an entry added: not empty
abbrev pub is_added : List ℕ → Bool
is_added line = is_one_line line && nat_le 1 (length line)

abbrev pub added_form : Form (List ℕ)
added_form = behind (codes "| ") (passing is_added)

-- ---- the first line of an entry

abbrev pub Head : Type 0
Head = ℕ × (ℕ × (Option ℕ × Did))

abbrev pub head_form : List RepoView → Entries → List Entry → Form Head
head_form repos tree past = up_to 46 large (λ t. up_to 32 large (λ c. up_to 32 (or_dash (repo_number repos)) (λ r. did_form repos tree past r)))

-- ---- repositories and changes of the tree

abbrev pub id_form : Form (List ℕ)
id_form = record { text = repo_text; read = repo_of; ok = IsId }

abbrev pub locks_word : Bool → List ℕ
locks_word true = codes "locks"
locks_word false = codes "nolock"

abbrev pub repo_parts : Form (List ℕ × (List ℕ × (ℕ × (ℕ × Bool))))
repo_parts = up_to 32 (passing is_name) (λ n. up_to 32 id_form (λ i. behind (codes "offset=") (up_to 32 (number greatest_offset) (λ o. behind (codes "version=") (up_to 32 (tested (λ v. nat_le 1 v) (number 3)) (λ v. one_of locks_word (true ∷ false ∷ [])))))))

abbrev pub a_repo : (List ℕ × (List ℕ × (ℕ × (ℕ × Bool)))) → RepoView
a_repo x = record { name = x.0; id = x.1.0; offset = x.1.1.0; version = x.1.1.1.0; locks = x.1.1.1.1 }

abbrev pub is_new : List RepoView → RepoView → Bool
is_new repos x = not (list_any (λ y. bytes_eq y.name x.name) repos)

pub record IsRepo (repo : RepoView) : Type 0 where
  pub name : is_name repo.name ≡ true
  pub id : IsId repo.id
  pub offset : repo.offset ≤ greatest_offset
  pub oldest : 1 ≤ repo.version
  pub newest : repo.version ≤ 3

-- the line of a repository
abbrev pub repo_words : RepoView → List ℕ
repo_words repo = codes "repo " ++ repo_parts.text (repo.name, (repo.id, (repo.offset, (repo.version, repo.locks))))

abbrev pub repo_form : Form RepoView
repo_form = table repo_words (row (codes "repo ") repo_parts a_repo ∷ []) IsRepo

-- so many bytes, a space, and a form
abbrev pub sized_in : {A : Type 0} → (List ℕ → Bool) → Form A → List ℕ → List ℕ → Option (List ℕ × A)
sized_in test next path [] = None
sized_in test next path (b ∷ rest) = if b == 32 && test path then (next.read rest >>= λ y. Some (path, y)) else None

abbrev pub sized_at : {A : Type 0} → (List ℕ → Bool) → Form A → ℕ → List ℕ → Option (List ℕ × A)
sized_at test next n bytes = if nat_lt n (length bytes) then sized_in test next (take n bytes) (drop n bytes) else None

abbrev pub sized : {A : Type 0} → (List ℕ → Bool) → Form A → Form (List ℕ × A)
sized test next = record {
  text = λ x. decimal (length x.0) ++ 32 ∷ (x.0 ++ 32 ∷ next.text x.1);
  read = λ bytes. cut 32 bytes >>= λ parts. small.read parts.0 >>= λ n. sized_at test next n parts.1;
  ok = λ x. (length x.0 ≤ 4294967295) × ((test x.0 ≡ true) × next.ok x.1);
}

abbrev pub is_line_path : List ℕ → Bool
is_line_path path = is_path path && is_one_line path

abbrev pub a_mark : (ℕ × (List ℕ × List ℕ)) → TreeMark
a_mark x = record { place = x.0; path = x.1.0; key = x.1.1 }

abbrev pub path_parts : Form (ℕ × (List ℕ × List ℕ))
path_parts = up_to 32 small (λ p. sized is_line_path key)

pub record IsChange (mark : TreeMark) : Type 0 where
  pub place : mark.place ≤ 4294967295
  pub path : is_line_path mark.path ≡ true
  pub key : key.ok mark.key

-- the line of a change of the tree
abbrev pub path_words : TreeMark → List ℕ
path_words mark = codes "path " ++ path_parts.text (mark.place, (mark.path, mark.key))

abbrev pub path_form : Form TreeMark
path_form = table path_words (row (codes "path ") path_parts a_mark ∷ []) IsChange

-- the tree after so many entries
abbrev pub tree_from : Entries → List TreeMark → ℕ → Entries
tree_from tree [] n = tree
tree_from tree (m ∷ marks) n = if nat_le m.place n then tree_from (with_key tree m.path m.key) marks n else tree

abbrev pub tree_at : List TreeMark → ℕ → Entries
tree_at marks n = tree_from [] marks n
