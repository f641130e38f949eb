use Rattle.pj_value.proofs.NumberBytesLemmas.{length-bytes_low_first, AreBytes-bytes_low_first}
use Rattle.pj_value.proofs.NumberBytesLemmas.{number_in_bytes-bytes_low_first}
use Rattle.pj_value.proofs.laws.numbers_are_of_their_bytes.Goals as goal

pub returns : goal.returns
returns c =
    λ k n. (
      length-bytes_low_first 0 k n,
      AreBytes-bytes_low_first k n,
      number_in_bytes-bytes_low_first k n,
    )
