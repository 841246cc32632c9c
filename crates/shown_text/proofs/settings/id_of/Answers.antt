-- What the proof of `settings::id_of` needs beside the tactics.
use Rattle.shown_text.proofs.Identifiers.{id_at}
use Rattle.shown_text.proofs.settings.id_of.Goals as goal

pub returns : goal.returns
returns c = id_at c.args.repos.now c.args.repo c.index-repos-repo.result c.requires
