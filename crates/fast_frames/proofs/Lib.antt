mod Lays
