use Rattle.written.proofs.Comes.{marks_come_back, bases_come_back, subtables_come_back, extensions_come_back, lookups_come_back}
use Rattle.written.proofs.reading_undoes_writing.Goals as goal

pub returns : goal.returns
returns c = record { marks = marks_come_back; bases = bases_come_back; subtables = subtables_come_back; extensions = extensions_come_back; lookups = lookups_come_back }
