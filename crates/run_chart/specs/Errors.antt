-- Why a run has no rows.
use Rattle.run_chart.specs.declared.errors.ChartError.{ChartError}
use Rattle.run_chart.specs.declared.errors.ChartError.TheVariants as chart
use Rattle.run_chart.specs.declared.errors.RowError.{RowError}
use Rattle.run_chart.specs.declared.errors.RowError.TheVariants.{TooManyRows, NoMemory}

abbrev pub untold : RowError → ChartError
untold TooManyRows = chart.TooManyRows
untold NoMemory = chart.NoMemory
