mod Fitting
mod Lines
