-- The numbers that the words may give are numbers of 32 bits.
use Rattle.std.proofs.Common.{◌<◌, ◌^◌, arith}
use Rattle.command_settings.specs.Usage.{most_limit, most_size, most_threads, most_window}

pub small_size : most_size < 2 ^ 32
small_size = omega arith

pub small_limit : most_limit < 2 ^ 32
small_limit = omega arith

pub small_window : most_window < 2 ^ 32
small_window = omega arith

pub small_threads : most_threads < 2 ^ 32
small_threads = omega arith
