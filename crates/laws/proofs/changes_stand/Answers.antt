use Rattle.laws.proofs.OfStrings.{never_changes, others_stay, stays_sound, strings_sound, marks_back, bytes_back}
use Rattle.laws.proofs.changes_stand.Goals as goal

pub returns : goal.returns
returns c = record { fixed = never_changes; others = others_stay; sound = stays_sound; strings = strings_sound; marks = marks_back; bytes = bytes_back }
