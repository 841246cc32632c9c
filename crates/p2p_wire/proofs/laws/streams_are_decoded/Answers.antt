-- What the proof of `laws::streams_are_decoded` needs beside the tactics.
use Rattle.p2p_wire.proofs.DecodeLemmas.{decodes}
use Rattle.p2p_wire.proofs.laws.streams_are_decoded.Goals as goal

pub returns : goal.returns
returns c items events more each is = decodes items events more each is
