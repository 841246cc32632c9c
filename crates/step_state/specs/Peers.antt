-- With whom a repository talks: repositories of its run (own).
use Rattle.std.specs.Prelude.{ℕ, ◌<◌, IfSome}
use Rattle.annex_base.specs.Lists.{Each}
use Rattle.run_data.specs.declared.entry.Entry.{Entry}
use Rattle.run_data.specs.declared.entry.EntryKind.{EntryKind}
use Rattle.run_data.specs.declared.entry.EntryKind.TheVariants.{Begin}

-- the peer of a job that begins is one of so many repositories
abbrev pub BeginsWithin : ℕ → EntryKind → Type 0
BeginsWithin count (Begin job what) = IfSome what.peer (λ p. p < count)
BeginsWithin count kind = Unit {0}

-- so are those to which the entry sends frames
pub record HasPeersIn (count : ℕ) (e : Entry) : Type 0 where
  pub sent : Each (λ f. f.peer < count) e.sent
  pub begun : BeginsWithin count e.kind
