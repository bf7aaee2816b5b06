use Rattle.fields.proofs.Digits.{written_reads_back, read_is_written}
use Rattle.fields.proofs.numeral.numbers_stand.Goals as goal

pub returns : goal.returns
returns c = record { back = written_reads_back; only = read_is_written }
