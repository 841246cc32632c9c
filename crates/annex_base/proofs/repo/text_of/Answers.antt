-- What the proof of `repo::text_of` needs beside the tactics.
use Rattle.std.proofs.Common.{length, ap, sym, ◌∙◌}
use Rattle.annex_base.proofs.RepoLemmas.{length-repo_text}
use Rattle.annex_base.proofs.repo.text_of.Goals as goal

pub copy_from_slice-requires : goal.copy_from_slice-requires
copy_from_slice-requires c =
    sym (ap length (c.as_bytes.ensures.value ∙ c.encode_lower-text.ensures.text) ∙ length-repo_text c.hyphenated.result)
