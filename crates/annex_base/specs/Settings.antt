-- What a repository knows from its branch, for drops and expressions of wanted content (git-annex; see each field).
use Rattle.std.specs.Prelude.{ℕ, List}
use Rattle.annex_base.specs.declared.kinds.Level.{Level}

-- A repository stands here as its identifier, a group as its name, and a key as its text.
pub record Settings : Type 0 where
  -- how far a repository is trusted (git-annex trust)
  pub level : List ℕ → Level
  -- how many copies of a content are to be preserved (git-annex-numcopies)
  pub numcopies : ℕ
  -- how many copies are never to be gone below (git-annex-mincopies)
  pub mincopies : ℕ
  -- the patterns of paths that have numbers of their own, each with its number, in order: of copies that are to be
  -- preserved, and of copies that are never to be gone below (own)
  pub path_numcopies : List (List ℕ × ℕ)
  pub path_mincopies : List (List ℕ × ℕ)
  -- the groups that a repository is in (git-annex-group)
  pub groups : List ℕ → List (List ℕ)
  -- a repository's description
  pub description : List ℕ → List ℕ
  -- the expression of the content that a repository prefers (git-annex-preferred-content)
  pub preferred : List ℕ → List ℕ
  -- the expression of the content that a repository requires (git-annex-required)
  pub required : List ℕ → List ℕ
  -- the expression of the content that the repositories of a group prefer
  pub group_preferred : List ℕ → List ℕ
  -- the repositories that are in at least one group, in order
  pub grouped : List (List ℕ)
  -- the repositories that are claimed to have a key, in order
  pub claims : List ℕ → List (List ℕ)
