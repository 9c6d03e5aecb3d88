mod Fitting
mod LinePut
