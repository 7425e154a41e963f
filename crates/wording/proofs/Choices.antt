-- What unfolds this unfolds a test, which an attribute in the code cannot name.
use Rattle.word.specs.Choices.{if◌then◌otherwise◌}

unfoldable pub choosing : Unit {0}
unfolding if◌then◌otherwise◌
choosing = tt
