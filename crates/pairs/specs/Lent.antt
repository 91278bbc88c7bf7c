-- What is lent to be read, as lists. Definitions only.
use Rattle.pairs.specs.Pairs.{Tables, tables}
use Rattle.pairs.specs.declared.Lent.{Lent}

abbrev pub tables_of : Lent → Tables
tables_of l = tables l.paths.now l.paints.now l.backdrops.now l.stored.now l.tally.now
