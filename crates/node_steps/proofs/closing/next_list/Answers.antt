-- What the proof of `closing::next_list` needs beside the tactics.
use Rattle.std.proofs.Common.{subst}
use Rattle.annex_base.specs.Lists.{Each}
use Rattle.node_steps.specs.Shutting.{IsListing}
use Rattle.node_steps.proofs.CloseLemmas.{last_listing}
use Rattle.node_steps.proofs.closing.next_list.Goals as goal

pub returns-clause-listing : goal.returns-clause-listing
returns-clause-listing c = (last_listing c.pop.new.self.items c.in-Some.listing (subst (Each IsListing) c.in-Some.ensures.items c.requires.lists)).0

pub returns-clause-lists : goal.returns-clause-lists
returns-clause-lists c = (last_listing c.pop.new.self.items c.in-Some.listing (subst (Each IsListing) c.in-Some.ensures.items c.requires.lists)).1
