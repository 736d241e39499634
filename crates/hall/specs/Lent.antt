-- The hall that is lent, in the words of the definitions.
use Rattle.hall.specs.Hall.{Hall}
use Rattle.hall.specs.declared.Hall.{Hall as LentHall}

abbrev pub lent_hall : LentHall → Hall
lent_hall hall = record { width = hall.grid.width; height = hall.grid.height; bytes = hall.bytes.now }
