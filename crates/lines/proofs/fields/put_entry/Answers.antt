use Rattle.lines.proofs.Pieces.{word-digits, field_room, put-field}
use Rattle.lines.proofs.fields.put_entry.Goals as goal

pub put_field-requires : goal.put_field-requires
put_field-requires c = field_room 10 c.from.ensures (word-digits _ c.ranges.x.fits) _ _ c.requires

pub returns : goal.returns
returns c =
    put-field 10 c.from.ensures (word-digits _ c.ranges.x.fits) _ c.put_field.ensures
