-- What the proof of `laws::contents_are_as_described` needs beside the tactics.
use Rattle.script_words.proofs.ContentLemmas.{content_found, content_described}
use Rattle.script_words.proofs.laws.contents_are_as_described.Goals as goal

pub returns : goal.returns
returns c word content = (content_described word content, content_found word content)
