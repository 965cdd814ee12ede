mod Cuts
mod Gains
mod Telling
mod Written
