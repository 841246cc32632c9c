-- A text spells at most one identifier.
use Rattle.std.proofs.Common.{◌≡◌, ℕ, ◌≤◌, List, length, length-append, take, drop, ◌++◌, Option, Some, refl, sym, ap, subst, ◌∙◌, arith, nat_lt}
use Rattle.std.proofs.lemmas.Bool.{le-ltb}
use Rattle.std.proofs.lemmas.List.{take-append-drop, take_at, drop_at}
use Rattle.std.proofs.lemmas.Option.{same_Some}
use Rattle.annex_base.specs.RepoText.{IsId, repo_of, repo_text}
use Rattle.annex_base.proofs.RepoLemmas.{length-repo_text, repo_again, repo_takes}
use Rattle.annex_base.proofs.Options.{bind_some, map_some, unless_some}
use Rattle.log_grammar.specs.LineText.{Ends}
use Rattle.log_grammar.specs.Reading.{stamp_end, repo_front, repo_line}
use Rattle.log_grammar.proofs.StampLemmas.{end_takes, end_again}

-- ---- an identifier in front

front_takes : (bytes : List ℕ) (x : List ℕ × List ℕ) → repo_front bytes ≡ Some x → IsId x.0 × (bytes ≡ repo_text x.0 ++ x.1)
unfolding repo_front
front_takes bytes x e =
    let long = unless_some (nat_lt (length bytes) 36) _ x e in
    let id = map_some (repo_of (take 36 bytes)) _ x long.1 in
    let is = repo_takes (take 36 bytes) id.0 id.1 in
    subst (λ (y : List ℕ × List ℕ). IsId y.0 × (bytes ≡ repo_text y.0 ++ y.1)) id.2
    (is.0, sym (take-append-drop 36 bytes) ∙ ap (λ (t : List ℕ). t ++ drop 36 bytes) is.1)

front_of : (text rest id : List ℕ) → length text ≡ 36 → repo_of text ≡ Some id → repo_front (text ++ rest) ≡ Some (id, rest)
unfolding repo_front
front_of text rest id long read =
    let within : 36 ≤ length (text ++ rest) = omega (arith, length-append text rest) in
    rw (le-ltb (length (text ++ rest)) 36 within, take_at text rest 36 long, drop_at text rest 36 long, read) refl

front_again : (id rest : List ℕ) → IsId id → repo_front (repo_text id ++ rest) ≡ Some (id, rest)
front_again id rest is = front_of (repo_text id) rest id (length-repo_text id) (repo_again (repo_text id) id is refl)

-- ---- an identifier in front and a stamp at the end

pub line_takes : (line : List ℕ) (x : List ℕ × List ℕ × Option ℕ) → repo_line line ≡ Some x → IsId x.0 × Ends line (repo_text x.0 ++ x.1) x.2
unfolding repo_line
line_takes line x e =
    let end = bind_some (stamp_end line) _ x e in
    let repo = bind_some (repo_front end.0.0) _ x end.2 in
    let is = front_takes end.0.0 repo.0 repo.1 in
    let same : (repo.0.0, repo.0.1, end.0.1) ≡ x = same_Some (repo.0.0, repo.0.1, end.0.1) x repo.2 in
    subst (λ (y : List ℕ × List ℕ × Option ℕ). IsId y.0 × Ends line (repo_text y.0 ++ y.1) y.2) same
    (is.0, subst (λ (f : List ℕ). Ends line f end.0.1) is.1 (end_takes line end.0 end.1))

pub line_again : (line id body : List ℕ) (stamp : Option ℕ) → IsId id → Ends line (repo_text id ++ body) stamp → repo_line line ≡ Some (id, body, stamp)
unfolding repo_line
line_again line id body stamp is ends = rw (end_again line (repo_text id ++ body) stamp ends, front_again id body is) refl
