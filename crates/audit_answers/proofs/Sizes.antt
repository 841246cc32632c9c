-- A short journal has few repositories and few entries, each of which sent few frames.
use Rattle.std.proofs.Common.{◌≡◌, ℕ, suc, ◌+◌, ◌<◌, ◌≤◌, ◌^◌, List, [], ◌∷◌, ◌++◌, length, sym, subst, arith}
use Rattle.std.specs.Prelude.{codes}
use Rattle.std.specs.List.{flat_map}
use Rattle.std.specs.Fmt.{decimal}
use Rattle.std.proofs.lemmas.List.{length-append}
use Rattle.annex_base.specs.Lists.{Each}
use Rattle.run_data.specs.declared.entry.Entry.{Entry}
use Rattle.run_data.specs.declared.entry.FrameView.{FrameView}
use Rattle.run_data.specs.declared.run.Run.{Run}
use Rattle.run_data.specs.declared.run.RepoView.{RepoView}
use Rattle.run_text.specs.Names.{name_or_dash}
use Rattle.journal_text.specs.Journal.{added_text, entries_text, entry_text, head_text, journal, kind_text, path_line, repo_line, sent_text, taken_text}

-- a part of a text isn't longer than it
front_fits : (xs ys : List ℕ) → length xs ≤ length (xs ++ ys)
front_fits xs ys = let both = length-append xs ys in omega (arith, both)

back_fits : (xs ys : List ℕ) → length ys ≤ length (xs ++ ys)
back_fits xs ys = let both = length-append xs ys in omega (arith, both)

le-trans : {a b c : ℕ} → a ≤ b → b ≤ c → a ≤ c
le-trans low high = omega (arith, low, high)

more_fits : (n a b c : ℕ) → n ≤ b → 1 ≤ a → c ≡ a + b → suc n ≤ c
more_fits n a b c low one both = omega (arith, low, one, both)

-- texts that aren't empty are no more than their bytes
few_texts : {X : Type 0} (f : X → List ℕ) → ((x : X) → 1 ≤ length (f x)) → (xs : List X) → length xs ≤ length (flat_map f xs)
few_texts f some [] = omega arith
few_texts f some (x ∷ xs) =
    let rest = few_texts f some xs in
    let one = some x in
    let both = length-append (f x) (flat_map f xs) in
    omega (arith, rest, one, both)

repo_some : (x : RepoView) → 1 ≤ length (repo_line x)
repo_some x = omega arith

sent_some : (repos : List RepoView) (f : FrameView) → 1 ≤ length (sent_text repos f)
sent_some repos f = omega arith

behind_some : (xs ys : List ℕ) → 1 ≤ length ys → 1 ≤ length (xs ++ ys)
behind_some xs ys some = let fits : length ys ≤ length (xs ++ ys) = back_fits xs ys in omega (arith, some, fits)

-- an entry's first line ends with a newline
head_some : (repos : List RepoView) (past : List Entry) (e : Entry) → 1 ≤ length (head_text repos past e)
head_some repos past e =
    behind_some
    (decimal e.time ++ codes "." ++ decimal e.count ++ codes " " ++ name_or_dash repos e.repo ++ codes " " ++ kind_text repos past e.repo (length e.lines) e.kind)
    (codes "\n") (omega arith)

entry_some : (repos : List RepoView) (past : List Entry) (e : Entry) → 1 ≤ length (entry_text repos past e)
entry_some repos past e =
    let head = head_text repos past e in
    let taken = taken_text repos e.taken in
    let sent = flat_map (sent_text repos) e.sent in
    le-trans (head_some repos past e)
    (le-trans (front_fits head taken) (le-trans (front_fits (head ++ taken) sent) (front_fits (head ++ taken ++ sent) (flat_map added_text e.lines))))

-- an entry sent no more frames than its text has bytes
sent_few : (repos : List RepoView) (past : List Entry) (e : Entry) → length e.sent ≤ length (entry_text repos past e)
sent_few repos past e =
    let head = head_text repos past e in
    let taken = taken_text repos e.taken in
    let sent = flat_map (sent_text repos) e.sent in
    le-trans (few_texts (sent_text repos) (sent_some repos) e.sent)
    (le-trans (back_fits (head ++ taken) sent) (front_fits (head ++ taken ++ sent) (flat_map added_text e.lines)))

entries_few : (repos : List RepoView) (past es : List Entry) → length es ≤ length (entries_text repos past es)
entries_few repos past [] = omega arith
entries_few repos past (e ∷ es) =
    let rest = entries_few repos (e ∷ past) es in
    let one = entry_some repos past e in
    let both : length (entries_text repos past (e ∷ es)) ≡ length (entry_text repos past e) + length (entries_text repos (e ∷ past) es) =
    length-append (entry_text repos past e) (entries_text repos (e ∷ past) es) in
    more_fits (length es) (length (entry_text repos past e)) (length (entries_text repos (e ∷ past) es)) (length (entries_text repos past (e ∷ es))) rest one both

sent_each : (n : ℕ) (repos : List RepoView) (past es : List Entry) → length (entries_text repos past es) ≤ n → Each (λ e. length e.sent ≤ n) es
sent_each n repos past [] low = tt
sent_each n repos past (e ∷ es) low =
    let here = sent_few repos past e in
    let front : length (entry_text repos past e) ≤ length (entries_text repos past (e ∷ es)) = front_fits (entry_text repos past e) (entries_text repos (e ∷ past) es) in
    let back : length (entries_text repos (e ∷ past) es) ≤ length (entries_text repos past (e ∷ es)) = back_fits (entry_text repos past e) (entries_text repos (e ∷ past) es) in
    (le-trans here (le-trans front low), sent_each n repos (e ∷ past) es (le-trans back low))

sent_within : (n : ℕ) → n + 1 < 2 ^ 64 → (es : List Entry) → Each (λ e. length e.sent ≤ n) es → Each (λ e. length e.sent + 1 < 2 ^ 64) es
sent_within n low [] each = tt
sent_within n low (e ∷ es) each = let here = each.0 in (omega (arith, low, here), sent_within n low es each.1)

-- the parts of a journal
pub record IsShort (run : Run) : Type 0 where
  pub repos : length run.repos < 2 ^ 32
  pub entries : length run.entries < 2 ^ 32
  pub sent : Each (λ e. length e.sent + 1 < 2 ^ 64) run.entries

pub short_journal : (bytes : List ℕ) (run : Run) → journal run ≡ bytes → length bytes ≤ 67108864 → IsShort run
short_journal bytes run is short =
    let repos = flat_map repo_line run.repos in
    let paths = flat_map path_line run.tree in
    let entries = entries_text run.repos [] run.entries in
    let whole : length (journal run) ≤ 67108864 = subst (λ text. length text ≤ 67108864) (sym is) short in
    let head = codes "journal " ++ decimal (length run.entries) ++ codes "\n" in
    let low : length entries ≤ 67108864 = le-trans (back_fits (head ++ repos ++ paths) entries) whole in
    let rs : length run.repos ≤ 67108864 =
    le-trans (few_texts repo_line repo_some run.repos) (le-trans (back_fits head repos)
    (le-trans (front_fits (head ++ repos) paths) (le-trans (front_fits (head ++ repos ++ paths) entries) whole))) in
    let es : length run.entries ≤ 67108864 = le-trans (entries_few run.repos [] run.entries) low in
    record {
      repos = omega (arith, rs);
      entries = omega (arith, es);
      sent = sent_within 67108864 (omega arith) run.entries (sent_each 67108864 run.repos [] run.entries low);
    }
