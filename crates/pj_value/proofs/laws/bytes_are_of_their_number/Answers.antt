use Rattle.pj_value.proofs.NumberBytesLemmas.{bytes_low_first-number_in_bytes, number_in_bytes-below}
use Rattle.pj_value.proofs.laws.bytes_are_of_their_number.Goals as goal

pub returns : goal.returns
returns c = λ bytes a. (bytes_low_first-number_in_bytes bytes a, number_in_bytes-below bytes a)
