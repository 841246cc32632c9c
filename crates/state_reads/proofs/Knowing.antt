-- What a drop reads of the logs at its first step.
use Rattle.std.proofs.Common.{◌≡◌, ℕ, zero, suc, ◌+◌, ◌<◌, List, [], ◌∷◌, ◌++◌, length, get_or, take, map, Option, None, refl, sym, ap, ◌∙◌}
use Rattle.std.specs.Prelude.{slice_get, unwrap_or}
use Rattle.std.proofs.lemmas.List.{map-append, map_more}
use Rattle.annex_base.specs.Settings.{Settings}
use Rattle.run_data.specs.Repos.{id_of}
use Rattle.run_data.specs.declared.run.RepoView.{RepoView}
use Rattle.node_model.specs.Evidence as drops
use Rattle.node_model.specs.Evidence.{standing_by}
use Rattle.node_model.specs.Jobs.{Work, target_of}
use Rattle.node_model.specs.Knows.{need_by}
use Rattle.node_model.specs.SetUp.{SetUp}
use Rattle.trust_groups.specs.Settings.{Lines, settings}
use Rattle.wanted_expr.specs.Wanted.{required}
use Rattle.state_reads.specs.Known.{AreLogsRead, KnownLogs, ids_of, required_by}
use Rattle.state_reads.specs.Standings.{standing_of}
use Rattle.state_reads.specs.declared.standing.Standing.{Standing}
use Rattle.state_reads.proofs.Nameless.{NothingFound, nameless_asked, nameless_requires}

-- one more repository
pub standings_more : (f : List ℕ → drops.Standing) (ids : List (List ℕ)) (i : ℕ) (id : List ℕ) (vs vs' : List Standing) (x : Standing) → i < length ids → id ≡ get_or ids i id → map standing_of vs ≡ map f (take i ids)
    → vs' ≡ vs ++ x ∷ [] → standing_of x ≡ f id → map standing_of vs' ≡ map f (take (i + 1) ids)
standings_more f ids i id vs vs' x within at was pushed is =
    ap (map standing_of) pushed ∙ (map-append standing_of vs (x ∷ []) ∙ ((λ k. was k ++ is k ∷ []) ∙ sym (map_more f ids i id within ∙ ap (λ (y : List ℕ). map f (take i ids) ++ f y ∷ []) (sym at))))

standing_listed : (f : List ℕ → drops.Standing) (repos : List RepoView) (c : ℕ) → f [] ≡ drops.Asked → unwrap_or (slice_get (map f (map (λ (repo : RepoView). repo.id) repos)) c) drops.Asked ≡ f (id_of repos c)
standing_listed f [] c nameless = sym nameless
standing_listed f (x ∷ xs) zero nameless = refl
standing_listed f (x ∷ xs) (suc c) nameless = standing_listed f xs c nameless

required_listed : (r : Settings) (repos : List RepoView) (c : ℕ) (key : List ℕ) (paths : List (List ℕ)) → required r [] key paths ≡ None
    → required r (id_of repos c) key paths ≡ required_by r (slice_get (map (λ (repo : RepoView). repo.id) repos) c) key paths
required_listed r [] c key paths nameless = nameless
required_listed r (x ∷ xs) zero key paths nameless = refl
required_listed r (x ∷ xs) (suc c) key paths nameless = required_listed r xs c key paths nameless

-- what was read of settings is what the lines say that set them
pub logs_known : NothingFound → (r : Settings) (lines : Lines) (s : SetUp) (w : Work) (repo : ℕ) (ids paths : List (List ℕ)) (id : Option (List ℕ)) (known : KnownLogs)
    → r ≡ settings lines → s.number ≡ repo → ids_of s ≡ ids → s.paths w.number ≡ paths → id ≡ slice_get ids (target_of repo w)
    → known.need ≡ need_by r paths → map standing_of known.standings ≡ map (standing_by r w.what.key) ids → known.requires ≡ required_by r id w.what.key paths
    → AreLogsRead (settings lines) s w known
logs_known law r lines s w repo ids paths id known same number listed had target need standings requires =
    let key = w.what.key in
    let back : settings lines ≡ r = sym same in
    record {
      need = (λ i. need_by (back i) (had i)) ∙ sym need;
      standing = λ c.
          sym (standing_listed (standing_by (settings lines) key) s.repos c (nameless_asked law lines key))
          ∙ ap (λ (l : List drops.Standing). unwrap_or (slice_get l c) drops.Asked) ((λ i. map (standing_by (back i) key) (listed i)) ∙ sym standings);
      requires =
          required_listed (settings lines) s.repos (target_of s.number w) key (s.paths w.number) (nameless_requires law lines key (s.paths w.number))
          ∙ (λ i. required_by (back i) (slice_get (listed i) (target_of (number i) w)) key (had i))
          ∙ ap (λ (o : Option (List ℕ)). required_by r o key paths) (sym target)
          ∙ sym requires;
    }
