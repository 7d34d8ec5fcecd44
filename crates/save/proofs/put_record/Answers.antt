use Rattle.save.proofs.Records.{record-stores}
use Rattle.save.proofs.put_record.Goals as goal

pub returns : goal.returns
returns c = let a = c.args in cc (record-stores a.bytes.now a.at a.parent a.weight)
